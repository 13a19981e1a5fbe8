use Rattle.elf64.proofs.Images.{apart_segments, each_sound, few_segments}
use Rattle.elf64.proofs.elf_laws.segments_are_sound.Goals as goal

pub returns-clause-few : goal.returns-clause-few
returns-clause-few c = few_segments

pub returns-clause-each : goal.returns-clause-each
returns-clause-each c = each_sound

pub returns-clause-apart : goal.returns-clause-apart
returns-clause-apart c = apart_segments
