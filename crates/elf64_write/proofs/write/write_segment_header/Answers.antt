use Rattle.std.proofs.Common.{◌≡◌, ◌++◌, List, [], ℕ, sym, ap, ◌∙◌, length}
use Rattle.std.specs.Int.{w32, w64, to_le_bytes}
use Rattle.elf64_write.specs.Written.{segment_header}
use Rattle.std.proofs.lemmas.List.{append-nil}
use Rattle.elf64_write.proofs.Appending.{added}
use Rattle.elf64_write.proofs.write.write_segment_header.Goals as goal

pub returns : goal.returns
unfolding segment_header
returns c =
    let old : List ℕ = c.args.file.now.items in
    let p1 : List ℕ = to_le_bytes w32 1 in
    let ys1 : List ℕ = p1 in
    let e1 : c.extend_from_slice.new.self.items ≡ old ++ ys1 = added old [] p1 _ (sym (append-nil old)) c.in_ok-extend_from_slice.ensures.items c.to_le_bytes.ensures in
    let p2 : List ℕ = to_le_bytes w32 c.args.segment.now.flags in
    let ys2 : List ℕ = ys1 ++ p2 in
    let e2 : c.extend_from_slice-2.new.self.items ≡ old ++ ys2
    = added old ys1 p2 _ e1 c.in_ok-extend_from_slice-2.ensures.items c.to_le_bytes-2.ensures in
    let p3 : List ℕ = to_le_bytes w64 c.args.offset in
    let ys3 : List ℕ = ys2 ++ p3 in
    let e3 : c.extend_from_slice-3.new.self.items ≡ old ++ ys3
    = added old ys2 p3 _ e2 c.in_ok-extend_from_slice-3.ensures.items c.to_le_bytes-3.ensures in
    let p4 : List ℕ = to_le_bytes w64 c.args.segment.now.at in
    let ys4 : List ℕ = ys3 ++ p4 in
    let e4 : c.extend_from_slice-4.new.self.items ≡ old ++ ys4
    = added old ys3 p4 _ e3 c.in_ok-extend_from_slice-4.ensures.items c.to_le_bytes-4.ensures in
    let p5 : List ℕ = to_le_bytes w64 c.args.segment.now.at in
    let ys5 : List ℕ = ys4 ++ p5 in
    let e5 : c.extend_from_slice-5.new.self.items ≡ old ++ ys5
    = added old ys4 p5 _ e4 c.in_ok-extend_from_slice-5.ensures.items c.to_le_bytes-5.ensures in
    let p6 : List ℕ = to_le_bytes w64 (length c.args.segment.now.bytes) in
    let ys6 : List ℕ = ys5 ++ p6 in
    let e6 : c.extend_from_slice-6.new.self.items ≡ old ++ ys6
    = added old ys5 p6 _ e5 c.in_ok-extend_from_slice-6.ensures.items (c.to_le_bytes-6.ensures ∙ ap (λ (xs : List ℕ). to_le_bytes w64 (length xs)) c.as_slice.ensures) in
    let p7 : List ℕ = to_le_bytes w64 c.args.segment.now.size in
    let ys7 : List ℕ = ys6 ++ p7 in
    let e7 : c.extend_from_slice-7.new.self.items ≡ old ++ ys7
    = added old ys6 p7 _ e6 c.in_ok-extend_from_slice-7.ensures.items c.to_le_bytes-7.ensures in
    let p8 : List ℕ = to_le_bytes w64 1 in
    let ys8 : List ℕ = ys7 ++ p8 in
    let e8 : c.extend_from_slice-8.new.self.items ≡ old ++ ys8
    = added old ys7 p8 _ e7 c.in_ok-extend_from_slice-8.ensures.items c.to_le_bytes-8.ensures in
    e8
