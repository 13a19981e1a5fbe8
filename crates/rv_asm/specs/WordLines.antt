-- The text of a word's line, from its parts.
use Rattle.std.specs.Prelude.{ℕ, List}
use Rattle.rv_asm.specs.Disassembly.{upper_text, jump_text, address_text, two_registers_text}
use Rattle.rv_asm.specs.Disassembly.{three_registers_text, fence_text, data_text}
use Rattle.rv_asm.specs.declared.line.WordLine.{WordLine}
use Rattle.rv_asm.specs.declared.line.WordLine.TheVariants.{Name, Upper, Jump, Address}
use Rattle.rv_asm.specs.declared.line.WordLine.TheVariants.{TwoRegisters, ThreeRegisters}
use Rattle.rv_asm.specs.declared.line.WordLine.TheVariants.{Fence, Data}

abbrev pub line_text : WordLine → List ℕ
line_text (Name name) = name.now
line_text (Upper name a n) = upper_text name.now a n
line_text (Jump name a z) = jump_text name.now a z
line_text (Address name a z b) = address_text name.now a z b
line_text (TwoRegisters name a b z) = two_registers_text name.now a b z
line_text (ThreeRegisters name a b c) = three_registers_text name.now a b c
line_text (Fence a b n) = fence_text a b n
line_text (Data w) = data_text w
