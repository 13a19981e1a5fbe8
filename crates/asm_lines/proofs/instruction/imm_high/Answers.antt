use Rattle.std.proofs.Common.{◌≡◌, ◌⊎◌, inl, inr, pos, refl}
use Rattle.instruction_model.specs.declared.instruction.ImmOp.{ImmOp}
use Rattle.instruction_model.specs.declared.instruction.ImmOp.TheVariants.{Slli, Srli, Srai}
use Rattle.asm_lines.specs.Statement.{imm_high}
use Rattle.asm_lines.proofs.instruction.imm_high.Goals as goal

of_shift : (op : ImmOp) → (op ≡ Slli) ⊎ ((op ≡ Srli) ⊎ (op ≡ Srai)) → pos 63 ≡ imm_high op
of_shift op (inl e) = rw e refl
of_shift op (inr (inl e)) = rw e refl
of_shift op (inr (inr e)) = rw e refl

pub returns-in-Slli : goal.returns-in-Slli
returns-in-Slli c = of_shift c.args.op c.in-Slli.is
