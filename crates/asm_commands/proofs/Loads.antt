-- The lines of a file's PT_LOADs are those of its segments.
use Rattle.std.proofs.Common.{◌≡◌, ℕ, ◌-◌, ◌%◌, ◌<◌, ◌==◌, Bool, true, false, ◌&&◌}
use Rattle.std.proofs.Common.{if◌then◌else◌, List, [], ◌∷◌, ◌++◌, length, take, drop, get_or, map}
use Rattle.std.proofs.Common.{Ok, refl, sym, ap, ◌∙◌, arith}
use Rattle.std.proofs.lemmas.List.{take_all}
use Rattle.std.specs.List.{AllByRecursion, filter}
use Rattle.asm_commands.specs.Conversion.{CutsOff, Writes}
use Rattle.asm_commands.specs.Dis.{Lists}
use Rattle.asm_commands.specs.Listing.{bytes_lines, listing}
use Rattle.asm_commands.specs.Loads.{is_listed, load_lines}
use Rattle.command_parts.specs.Outside.{Stream, Fails}
use Rattle.edge_streams.specs.Content.{Adds}
use Rattle.elf64.specs.Elf.{elf, image_of}
use Rattle.elf64.specs.Laws.{HoldsOfImages, IsSoundSegment}
use Rattle.elf64.specs.Segments.{has_memory, loads, segment_of, segments_of}
use Rattle.elf64.specs.declared.program_header.ProgramHeader.{ProgramHeader}
use Rattle.output_buffer.specs.Sent.{IsCut}

chosen : (b : Bool) (lines : List ℕ) → b ≡ true → (if b then lines else []) ≡ lines
chosen true lines e = refl
chosen false lines e = cc

-- the lines of a PT_LOAD that is listed
pub listed : (bytes file : List ℕ) (h : ProgramHeader) → is_listed h ≡ true
    → file ≡ take h.p_filesz (drop h.p_offset bytes)
    → bytes_lines h.p_vaddr file ≡ load_lines bytes h
listed bytes file h e is =
    ap (λ l. bytes_lines h.p_vaddr l) is
    ∙ sym (chosen (is_listed h)
    (bytes_lines h.p_vaddr (take h.p_filesz (drop h.p_offset bytes))) e)

-- masked flags keep the lowest
flag_kept : (flags : ℕ) → (flags % 2 == 1) ≡ (flags % 8 % 2 == 1)
flag_kept flags = let e : flags % 8 % 2 ≡ flags % 2 = omega arith in rw e refl

-- one that isn't a segment has no lines
more : (bytes : List ℕ) (h : ProgramHeader) (hs : List ProgramHeader) (a : Bool)
    → (if a && h.p_flags % 2 == 1
    then bytes_lines h.p_vaddr (take h.p_filesz (drop h.p_offset bytes)) else [])
    ++ listing (segments_of bytes hs)
    ≡ listing (map (segment_of bytes)
    (if a then h ∷ filter has_memory hs else filter has_memory hs))
more bytes h hs true =
    ap (λ b. (if b then bytes_lines h.p_vaddr (take h.p_filesz (drop h.p_offset bytes)) else [])
    ++ listing (segments_of bytes hs)) (flag_kept h.p_flags)
more bytes h hs false = refl

-- the first PT_LOAD apart
pub loads_split : (none : ProgramHeader) (bytes : List ℕ) (hs : List ProgramHeader)
    → 0 < length hs
    → load_lines bytes (get_or hs 0 none)
    ++ listing (segments_of bytes (take (length hs - 1) (drop 1 hs)))
    ≡ listing (segments_of bytes hs)
loads_split none bytes [] some = absurd (omega arith)
loads_split none bytes (h ∷ hs) some =
    ap (λ l. load_lines bytes h ++ listing (segments_of bytes l))
    (take_all (length (h ∷ hs) - 1) hs (omega arith))
    ∙ more bytes h hs (has_memory h)

module _ (bytes : List ℕ) (hs : List ProgramHeader) (same : hs ≡ loads bytes)
    (image : elf bytes ≡ Ok (image_of bytes)) where
  -- the segments of a file's image are sound
  pub sound_loads : HoldsOfImages (λ program. AllByRecursion IsSoundSegment program.segments)
      → AllByRecursion IsSoundSegment (segments_of bytes hs)
  sound_loads each = rw same (each bytes (image_of bytes) image)

  -- the listing was written
  pub listing_written : (sink : Stream)
      → Adds (listing (segments_of bytes hs)) sink.before sink.after → Writes Lists bytes sink
  listing_written sink h = record {
    output = listing (segments_of bytes hs);
    made_is = record {
      program = image_of bytes;
      image_is = image;
      output_is = ap (λ l. listing (segments_of bytes l)) same;
    };
    written = h;
  }

  -- a part of it was
  pub listing_cut : (sink : Stream) → Fails sink
      → IsCut (listing (segments_of bytes hs)) sink.before sink.after → CutsOff Lists bytes sink
  listing_cut sink failed h = record {
    output = listing (segments_of bytes hs);
    made_is = record {
      program = image_of bytes;
      image_is = image;
      output_is = ap (λ l. listing (segments_of bytes l)) same;
    };
    failed = failed;
    part = h.0;
    within = h.1;
    written = h.2;
  }
