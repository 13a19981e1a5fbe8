-- Texts and what they are, worked out by hand from the forms of lines. `|` stands for a line feed.
use Rattle.std.specs.Prelude.{ℕ, ◌==◌, if◌then◌else◌, List, [], ◌∷◌, ◌++◌, map, codes}
use Rattle.std.specs.Int.{w32, to_le_bytes}
use Rattle.std.specs.List.{flat_map}
use Rattle.image_model.specs.declared.image.Image.{Image}
use Rattle.image_model.specs.declared.image.Segment.{Segment}
use Rattle.asm_program.specs.Reading.{LineFault}
use Rattle.asm_lines.specs.declared.fault.AsmKind.{AsmKind}
use Rattle.asm_lines.specs.declared.fault.AsmKind.TheVariants.{BadShape, UnknownName, BadNumber}
use Rattle.asm_lines.specs.declared.fault.AsmKind.TheVariants.{OutOfRange, TwiceDefined, Undefined}

-- the text with line feeds for bars
abbrev pub of_lines : List ℕ → List ℕ
of_lines text = map (λ b. if b == 124 then 10 else b) text

abbrev pub at : ℕ → AsmKind → LineFault
at line kind = record { line = line; kind = kind }

-- ---- texts with a fault

abbrev pub names : List (List ℕ × LineFault)
names =
    (codes ".segment 0x10000 rx 64|foo x1, x2, x3", at 2 UnknownName)
    ∷ (codes ".segment 0x10000 rx 64|ADD x1, x2, x3", at 2 UnknownName)
    ∷ (codes ".segment 0x10000 rx 64|loop: addi x1, x0, 1", at 2 UnknownName)
    ∷ (codes "???", at 1 UnknownName)
    ∷ (codes ".text", at 1 UnknownName)
    ∷ (codes "|.section x|", at 2 UnknownName)
    ∷ (codes ".segment 0x10000 rx 64|add x1, x2, x32", at 2 UnknownName)
    ∷ (codes ".segment 0x10000 rx 64|add x1, x02, x3", at 2 UnknownName)
    ∷ (codes ".segment 0x10000 rx 64|add x1, fp, x3", at 2 UnknownName)
    ∷ (codes ".segment 0x10000 rx 64|add x1, X2, x3", at 2 UnknownName)
    ∷ (codes ".segment 0x10000 rx 64|addi x1, 5, huge", at 2 UnknownName)
    ∷ (codes ".segment 0x10000 rx 64|ld x1, y(x99)", at 2 UnknownName)
    ∷ []

abbrev pub shapes : List (List ℕ × LineFault)
shapes =
    (codes "addi x1, x0, 1", at 1 BadShape)
    ∷ (codes "addi x1, q, 99999", at 1 BadShape)
    ∷ (codes "loop:", at 1 BadShape)
    ∷ (codes ".word q", at 1 BadShape)
    ∷ (codes ".zero -1", at 1 BadShape)
    ∷ (codes ".segment 0x10000 rx 64|1a:", at 2 BadShape)
    ∷ (codes ".segment 0x10000 rx 64|a-b:", at 2 BadShape)
    ∷ (codes ".segment 0x10000 rx 64|:", at 2 BadShape)
    ∷ (codes ".segment 0x10000 rx 64|add x1, x2", at 2 BadShape)
    ∷ (codes ".segment 0x10000 rx 64|add x1, x2, x3, x4", at 2 BadShape)
    ∷ (codes ".segment 0x10000 rx 64|add x1, , q", at 2 BadShape)
    ∷ (codes ".segment 0x10000 rx 64|add x1, x 2, q", at 2 BadShape)
    ∷ (codes ".segment 0x10000 rx 64|add x1, x2, (x3)", at 2 BadShape)
    ∷ (codes ".segment 0x10000 rx 64|add", at 2 BadShape)
    ∷ (codes ".segment 0x10000 rx 64|ecall x1", at 2 BadShape)
    ∷ (codes ".segment 0x10000 rx 64|ld x1, x2", at 2 BadShape)
    ∷ (codes ".segment 0x10000 rx 64|ld x1, (x2)", at 2 BadShape)
    ∷ (codes ".segment 0x10000 rx 64|ld x1, 0(x2", at 2 BadShape)
    ∷ (codes ".segment 0x10000 rx 64|ld x1, 0(x2))", at 2 BadShape)
    ∷ (codes ".segment 0x10000 rx 64|ld x1, 0 (x2)", at 2 BadShape)
    ∷ (codes ".segment 0x10000 rx 64|ld x1, 0()", at 2 BadShape)
    ∷ (codes ".segment 0x10000 rx 64|.word 1, 2", at 2 BadShape)
    ∷ (codes ".segment 0x10000 rx 64|.word", at 2 BadShape)
    ∷ (codes ".segment 0x10000 xr 64", at 1 BadShape)
    ∷ (codes ".segment 0x10000 64", at 1 BadShape)
    ∷ (codes ".segment 0x10000 - 64", at 1 BadShape)
    ∷ (codes ".entry 1a", at 1 BadShape)
    ∷ (codes ".entry", at 1 BadShape)
    ∷ []

abbrev pub numbers : List (List ℕ × LineFault)
numbers =
    (codes ".segment 0x10000 rx 64|addi x1, x0, 01", at 2 BadNumber)
    ∷ (codes ".segment 0x10000 rx 64|addi x1, x0, 0x", at 2 BadNumber)
    ∷ (codes ".segment 0x10000 rx 64|addi x1, x0, 0X1", at 2 BadNumber)
    ∷ (codes ".segment 0x10000 rx 64|addi x1, x0, +1", at 2 BadNumber)
    ∷ (codes ".segment 0x10000 rx 64|addi x1, x0, --1", at 2 BadNumber)
    ∷ (codes ".segment 0x10000 rx 64|addi x1, x0, -", at 2 BadNumber)
    ∷ (codes ".segment 0x10000 rx 64|addi x1, x0, a", at 2 BadNumber)
    ∷ (codes ".segment 0x10000 rx 64|jal x0, 1a", at 2 BadNumber)
    ∷ (codes ".segment 0x10000 rx 64|.word 1,2", at 2 BadNumber)
    ∷ (codes ".segment -1 rx q", at 1 BadNumber)
    ∷ []

abbrev pub ranges : List (List ℕ × LineFault)
ranges =
    (codes ".segment 0x10000 rx 64|addi x1, x0, 2048", at 2 OutOfRange)
    ∷ (codes ".segment 0x10000 rx 64|addi x1, x0, -2049", at 2 OutOfRange)
    ∷ (codes ".segment 0x10000 rx 64|addi x1, x0, 99999999999999999999999", at 2 OutOfRange)
    ∷ (codes ".segment 0x10000 rx 64|slli x1, x0, 64", at 2 OutOfRange)
    ∷ (codes ".segment 0x10000 rx 64|slliw x1, x0, 32", at 2 OutOfRange)
    ∷ (codes ".segment 0x10000 rx 64|lui x1, 1048576", at 2 OutOfRange)
    ∷ (codes ".segment 0x10000 rx 64|lui x1, -1", at 2 OutOfRange)
    ∷ (codes ".segment 0x10000 rx 64|fence x0, x0, 4096", at 2 OutOfRange)
    ∷ (codes ".segment 0x10000 rx 64|ld x1, 2048(x2)", at 2 OutOfRange)
    ∷ (codes ".segment 0x10000 rx 64|beq x0, x0, 4096", at 2 OutOfRange)
    ∷ (codes ".segment 0x10000 rx 64|beq x0, x0, -4098", at 2 OutOfRange)
    ∷ (codes ".segment 0x10000 rx 64|beq x0, x0, 3", at 2 OutOfRange)
    ∷ (codes ".segment 0x10000 rx 64|jal x0, 1048576", at 2 OutOfRange)
    ∷ (codes ".segment 0x10000 rx 64|jal x0, -1048578", at 2 OutOfRange)
    ∷ (codes ".segment 0x10000 rx 64|.byte 256", at 2 OutOfRange)
    ∷ (codes ".segment 0x10000 rx 64|.byte -129", at 2 OutOfRange)
    ∷ (codes ".segment 0x10000 rx 64|.word 4294967296", at 2 OutOfRange)
    ∷ (codes ".segment 0x10000 rx 64|.word -2147483649", at 2 OutOfRange)
    ∷ (codes ".segment 0x10000 rx 64|.zero -1", at 2 OutOfRange)
    ∷ (codes ".segment 0x10000 rx 64|.zero 65", at 2 OutOfRange)
    ∷ (codes ".segment 0x10000 rx 64|.zero 62||.word 1", at 4 OutOfRange)
    ∷ (codes ".segment 0x10000 rx 0", at 1 OutOfRange)
    ∷ (codes ".segment -1 rx 64", at 1 OutOfRange)
    ∷ (codes ".segment 18446744073709551616 rx 64", at 1 OutOfRange)
    ∷ (codes ".segment 0 rx 18446744073709551616", at 1 OutOfRange)
    ∷ (codes ".segment 0x10000 rx 64|.byte 0|a:|.byte 0|beq x0, x0, a", at 5 OutOfRange)
    ∷ []

abbrev pub labels : List (List ℕ × LineFault)
labels =
    (codes ".segment 0x10000 rx 64|a:|ecall|a:", at 4 TwiceDefined)
    ∷ (codes ".segment 0x10000 rx 64|.entry a|.entry a", at 3 TwiceDefined)
    ∷ (codes ".segment 0x10000 rx 64|jal x0, there", at 2 Undefined)
    ∷ (codes ".entry there|.segment 0x10000 rx 64|jal x0, there", at 1 Undefined)
    ∷ (codes ".segment 0x10000 rx 64|jal x0, there|addi x1, x0, 2048", at 3 OutOfRange)
    ∷ (codes ".segment 0x10000 rx 8000|beq x0, x0, a|.zero 4092|a:", at 2 OutOfRange)
    ∷ (codes ".segment 0x10000 rx 8000|beq x0, x0, a|.zero 4092|foo|a:", at 4 UnknownName)
    ∷ (codes ".segment 0x10000 rx 8000|beq x0, x0, a|.zero 4092|a:|foo", at 2 OutOfRange)
    ∷ []

-- an image that isn't valid is the last line's fault
abbrev pub images : List (List ℕ × LineFault)
images =
    (codes "", at 1 BadShape)
    ∷ (codes "||", at 2 BadShape)
    ∷ (codes "# nothing", at 1 BadShape)
    ∷ (codes ".segment 0x10000 rw 64|# data alone|", at 2 BadShape)
    ∷ (codes ".segment 0 rx 64|", at 1 BadShape)
    ∷ (codes ".segment 0x10000 rx 64|.segment 0x1003f rx 1", at 2 BadShape)
    ∷ (codes ".segment 0x10002 rx 64", at 1 BadShape)
    ∷ []

-- ---- texts that make an image

-- words, the lowest byte first
abbrev pub as_bytes : List ℕ → List ℕ
as_bytes words = flat_map (λ w. to_le_bytes w32 w) words

abbrev pub segment : (at flags size : ℕ) → List ℕ → Segment
segment at flags size bytes = record { at = at; flags = flags; size = size; bytes = bytes }

-- a program that writes back the packet that it reads
abbrev pub echo_text : List ℕ
echo_text =
    codes ".segment 0x10000 rwx 4096|addi s0, x0, 1|slli s0, s0, 16|addi a0, s0, 256|"
    ++ (codes "addi a1, x0, 1024|addi a7, x0, 7|ecall|addi a0, s0, 256|addi a7, x0, 6|ecall|"
    ++ codes "addi a0, x0, 0|addi a7, x0, 8|ecall|")

abbrev pub echo_image : Image
echo_image = record {
  entry = 0x10000;
  segments = segment 0x10000 7 4096
      (as_bytes (0x00100413 ∷ 0x01041413 ∷ 0x10040513 ∷ 0x40000593 ∷ 0x00700893 ∷ 0x00000073
      ∷ 0x10040513 ∷ 0x00600893 ∷ 0x00000073 ∷ 0x00000513 ∷ 0x00800893 ∷ 0x00000073 ∷ []))
      ∷ [];
}

-- a program that adds the first byte of each packet to a sum
abbrev pub count_text : List ℕ
count_text =
    codes ".segment 0x10000 rx 4096|lui s0, 0x20|sd x0, 0(s0)|loop:|addi a7, x0, 3|ecall|"
    ++ (codes "addi a0, s0, 16|addi a1, x0, 64|addi a7, x0, 7|ecall|ld t0, 0(s0)|"
    ++ (codes "lbu t1, 16(s0)|add t0, t0, t1|sd t0, 0(s0)|addi a0, s0, 0|addi a1, x0, 1|"
    ++ codes "addi a7, x0, 6|ecall|jal x0, loop|.segment 0x20000 rw 4096"))

abbrev pub count_image : Image
count_image = record {
  entry = 0x10000;
  segments = segment 0x10000 5 4096
      (as_bytes (0x00020437 ∷ 0x00043023 ∷ 0x00300893 ∷ 0x00000073 ∷ 0x01040513 ∷ 0x04000593
      ∷ 0x00700893 ∷ 0x00000073 ∷ 0x00043283 ∷ 0x01044303 ∷ 0x006282b3 ∷ 0x00543023 ∷ 0x00040513
      ∷ 0x00100593 ∷ 0x00600893 ∷ 0x00000073 ∷ 0xfc9ff06f ∷ []))
      ∷ segment 0x20000 6 4096 [] ∷ [];
}

-- both ends of each range, the entry, and a label before and behind its use
abbrev pub edges_text : List ℕ
edges_text =
    codes "  .entry  start # where it begins|.segment 4096 rx 68|.word -2147483648|"
    ++ (codes ".word 4294967295|.byte -128|.byte 255|.zero 2|start:|addi x31,x0 , 2047|"
    ++ (codes "addi x1, zero, -2048|slli x1, x1, 0|srai x1, x1, 63|sraiw x1, x1, 31|"
    ++ (codes "lui x5, 1048575|fence x1, x2, 4095|ld x1, -2048(sp)|beq x0, x0, start|"
    ++ (codes "beq x0, x0, -4096|jal x0, 1048574|bne x0, x0, end|ebreak|end:|ecall"))))

abbrev pub edges_image : Image
edges_image = record {
  entry = 4108;
  segments = segment 4096 5 68
      (as_bytes (0x80000000 ∷ 0xffffffff ∷ 0x0000ff80 ∷ 0x7ff00f93 ∷ 0x80000093 ∷ 0x00009093
      ∷ 0x43f0d093 ∷ 0x41f0d09b ∷ 0xfffff2b7 ∷ 0xfff1008f ∷ 0x80013083 ∷ 0xfe0000e3 ∷ 0x80000063
      ∷ 0x7ffff06f ∷ 0x00001463 ∷ 0x00100073 ∷ 0x00000073 ∷ []))
      ∷ [];
}
