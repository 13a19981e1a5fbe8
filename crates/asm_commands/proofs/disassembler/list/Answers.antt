use Rattle.std.proofs.Common.{◌∙◌}
use Rattle.asm_commands.proofs.Loads.{listing_cut, listing_written, sound_loads}
use Rattle.command_parts.specs.Outside.{see}
use Rattle.asm_commands.proofs.disassembler.list.Goals as goal

pub write_listing-requires-clause-sound : goal.write_listing-requires-clause-sound
write_listing-requires-clause-sound g c =
    sound_loads c.args.file.now c.as_slice.result.now
    (c.as_slice.ensures.all ∙ c.in-Ok.ensures.loads) c.in-Ok.ensures.image
    c.segments_are_sound.ensures.each

pub returns-in-Ok-write_listing-clause-done : goal.returns-in-Ok-write_listing-clause-done
returns-in-Ok-write_listing-clause-done g c =
    let K = g.K.Sink in
    listing_written c.args.file.now c.as_slice.result.now
    (c.as_slice.ensures.all ∙ c.in-Ok.ensures.loads) c.in-Ok.ensures.image
    (see K.contents K.faults c.args.sink.now c.write_listing.new.sink)
    c.in-Ok-write_listing.ensures.written

pub returns-in-Err-write_listing-clause-refused
    : goal.returns-in-Err-write_listing-clause-refused
returns-in-Err-write_listing-clause-refused g c =
    let K = g.K.Sink in
    listing_cut c.args.file.now c.as_slice.result.now
    (c.as_slice.ensures.all ∙ c.in-Ok.ensures.loads) c.in-Ok.ensures.image
    (see K.contents K.faults c.args.sink.now c.write_listing.new.sink)
    c.in-Err-write_listing.ensures.failed c.in-Err-write_listing.ensures.cut
