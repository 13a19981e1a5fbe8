-- How the end of a run, packets and bytes are spelled in a line of output.
use Rattle.std.specs.Prelude.{ℕ, false, List, [], ◌∷◌, ◌++◌, map, codes}
use Rattle.std.specs.Fmt.{decimal, radix_digits}
use Rattle.std.specs.List.{join_with_byte}
use Rattle.hex.specs.Hex.{encode_lower}
use Rattle.machine_model.specs.declared.stop.Stop.{Stop}
use Rattle.machine_model.specs.declared.stop.Stop.TheVariants.{Trigger, Budget, Exception, Rest}
use Rattle.machine_model.specs.declared.stop.Stop.TheVariants.{Halt}

abbrev pub hexadecimal : ℕ → List ℕ
hexadecimal n = radix_digits 16 false n

-- A run without a trigger doesn't end at one, so the last word is in no line.
abbrev pub end_text : Stop → List ℕ
end_text Rest = codes "ok"
end_text (Halt code) = codes "halt:" ++ decimal code
end_text (Exception cause pc tval) =
    codes "fault:" ++ (decimal cause ++ (codes ":" ++ (hexadecimal pc
    ++ (codes ":" ++ hexadecimal tval))))
end_text Budget = codes "budget"
end_text Trigger = codes "trigger"

-- bytes in hexadecimal, or a dash where there are none
abbrev pub bytes_text : List ℕ → List ℕ
bytes_text [] = codes "-"
bytes_text (b ∷ bs) = encode_lower (b ∷ bs)

-- packets joined by slashes, or `none`
abbrev pub packets_text : List (List ℕ) → List ℕ
packets_text [] = codes "none"
packets_text (p ∷ ps) = join_with_byte 47 (map bytes_text (p ∷ ps))

-- `END STEPS PACKETS CONSOLE`, as a line
abbrev pub reply_line : Stop → ℕ → List (List ℕ) → List ℕ → List ℕ
reply_line stop number packets console =
    end_text stop ++ (codes " " ++ (decimal number ++ (codes " " ++ (packets_text packets
    ++ (codes " " ++ (bytes_text console ++ codes "\n"))))))
