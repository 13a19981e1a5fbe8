use Rattle.std.proofs.Common.{◌∷◌, [], sym, ◌∙◌, arith, refl}
use Rattle.std.proofs.Common.{length-append}
use Rattle.elf64.proofs.Counting.{load_more, one_more, other_more, too_many}
use Rattle.elf64.proofs.program_table.loads.Goals as goal
use Rattle.elf64.proofs.program_table.loads.Goals.{then-is_load+else-is_full, else-is_load}

pub returns-then-is_full-clause-none : goal.returns-then-is_full-clause-none
returns-then-is_full-clause-none c =
    too_many c.args.bytes.now c.loop-index.loads c.loop-index.index c.program_header-header.result
    c.loop-index.invariant.all (c.if-is_full.ensures.0 refl) c.program_header-header.ensures
    (sym c.if-is_load.ensures) (omega (arith, c.e_phnum-index-end.ensures))

pub loop-index-preserved : goal.loop-index-preserved
loop-index-preserved c =
    let more = load_more c.args.bytes.now c.loop-index.loads c.loop-index.index
    c.program_header-header.result c.loop-index.invariant.all c.program_header-header.ensures in
    let same = other_more c.args.bytes.now c.loop-index.loads c.loop-index.index
    c.program_header-header.result c.loop-index.invariant.all c.program_header-header.ensures in
    let count = length-append c.loop-index.loads (c.program_header-header.result ∷ []) in
    elim c.if-is_load.branch [
      | then-is_load+else-is_full w ↦ record {
        all = w.loads-is ∙ (w.push.ensures ∙ more (sym w.if-is_load.ensures));
        few = rw (w.loads-is, w.push.ensures, count)
            (one_more _ _ w.is_full.ensures w.if-is_full.false c.loop-index.invariant.few);
      }
      | else-is_load w ↦ record {
        all = w.loads-is ∙ same (sym w.if-is_load.ensures);
        few = rw w.loads-is c.loop-index.invariant.few;
      }
    ]
