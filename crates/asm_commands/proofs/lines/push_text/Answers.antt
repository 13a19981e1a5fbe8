use Rattle.std.proofs.Common.{rules, w32, ◌++◌, codes, sym, ap, ◌∙◌}
use Rattle.std.proofs.lemmas.Int.{to_z-of_z}
use Rattle.asm_commands.proofs.Digits.{eight}
use Rattle.output_buffer.proofs.Ways.{sends_as}
use Rattle.rv_asm.specs.Disassembly.{jump_text, address_text, two_registers_text}
use Rattle.rv_asm.specs.WordLines.{line_text}
use Rattle.asm_commands.proofs.lines.push_text.Goals as goal

pub returns-in-Name : goal.returns-in-Name
returns-in-Name g c =
    sends_as _ _ _ _ (c.as_bytes.ensures.value ∙ ap line_text (sym c.in-Name.is)) c.push.ensures

pub returns-in-Upper : goal.returns-in-Upper
returns-in-Upper g c =
    sends_as _ _ _ _ (ap line_text (sym c.in-Upper.is)) c.push_pieces.ensures

pub returns-in-Jump : goal.returns-in-Jump
returns-in-Jump g c =
    let line = c.in-Jump in
    sends_as _ _ _ _
    (ap (λ z. jump_text line.name.now line.a z) (to_z-of_z w32 line.z (search rules))
    ∙ ap line_text (sym line.is))
    c.push_pieces-in-Jump.ensures

pub returns-in-Address : goal.returns-in-Address
returns-in-Address g c =
    let line = c.in-Address in
    sends_as _ _ _ _
    (ap (λ z. address_text line.name.now line.a z line.b) (to_z-of_z w32 line.z (search rules))
    ∙ ap line_text (sym line.is))
    c.push_pieces-in-Address.ensures

pub returns-in-TwoRegisters : goal.returns-in-TwoRegisters
returns-in-TwoRegisters g c =
    let line = c.in-TwoRegisters in
    sends_as _ _ _ _
    (ap (λ z. two_registers_text line.name.now line.a line.b z)
    (to_z-of_z w32 line.z (search rules))
    ∙ ap line_text (sym line.is))
    c.push_pieces-in-TwoRegisters.ensures

pub returns-in-ThreeRegisters : goal.returns-in-ThreeRegisters
returns-in-ThreeRegisters g c =
    sends_as _ _ _ _ (ap line_text (sym c.in-ThreeRegisters.is))
    c.push_pieces-in-ThreeRegisters.ensures

pub returns-in-Fence : goal.returns-in-Fence
returns-in-Fence g c =
    sends_as _ _ _ _ (ap line_text (sym c.in-Fence.is)) c.push_pieces-in-Fence.ensures

pub returns-in-Data : goal.returns-in-Data
returns-in-Data g c =
    sends_as _ _ _ _
    (ap (λ d. codes ".word 0x" ++ d) (eight c.in-Data.w) ∙ ap line_text (sym c.in-Data.is))
    c.push_pieces-in-Data.ensures
