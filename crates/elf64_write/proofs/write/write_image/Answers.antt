use Rattle.std.proofs.Common.{rules, ◌≡◌, ◌<◌, ◌^◌, arith}
use Rattle.std.proofs.lemmas.Grind.{common_steps}
use Rattle.elf64_write.specs.Written.{written}
use Rattle.elf64_write.proofs.ReadBack.{fit, reads_back, IsFit}
use Rattle.elf64_write.proofs.write.write_image.Goals as goal

pub write_segment_headers-requires : goal.write_segment_headers-requires
write_segment_headers-requires c =
    let is : IsFit c.args.image.now.entry c.args.image.now.segments
    = fit c.args.image.now c.requires in
    rw c.as_slice-segments.ensures (omega arith)

pub returns-clause-read_back : goal.returns-clause-read_back
returns-clause-read_back c =
    let is : c.write_segment_bytes.new.file.items ≡ written c.args.image.now = grind (arith, common_steps) in
    let small : c.args.image.now.entry < 2 ^ 64 = search rules in
    rw is (reads_back c.args.image.now small c.requires)
