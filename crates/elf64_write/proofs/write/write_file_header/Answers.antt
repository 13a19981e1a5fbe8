use Rattle.std.proofs.Common.{◌≡◌, ◌++◌, ◌∷◌, List, [], ℕ, refl}
use Rattle.std.specs.Int.{w16, w32, w64, to_le_bytes}
use Rattle.elf64_write.specs.Written.{file_header, e_ident}
use Rattle.elf64_write.proofs.Appending.{added}
use Rattle.elf64_write.proofs.write.write_file_header.Goals as goal

pub returns : goal.returns
unfolding file_header
returns c =
    let old : List ℕ = c.args.file.now.items in
    let p1 : List ℕ = e_ident in
    let ys1 : List ℕ = p1 in
    let e1 : c.extend_from_slice.new.self.items ≡ old ++ ys1 = c.in_ok-extend_from_slice.ensures.items in
    let p2 : List ℕ = to_le_bytes w16 2 in
    let ys2 : List ℕ = ys1 ++ p2 in
    let e2 : c.extend_from_slice-2.new.self.items ≡ old ++ ys2
    = added old ys1 p2 _ e1 c.in_ok-extend_from_slice-2.ensures.items c.to_le_bytes.ensures in
    let p3 : List ℕ = to_le_bytes w16 243 in
    let ys3 : List ℕ = ys2 ++ p3 in
    let e3 : c.extend_from_slice-3.new.self.items ≡ old ++ ys3
    = added old ys2 p3 _ e2 c.in_ok-extend_from_slice-3.ensures.items c.to_le_bytes-2.ensures in
    let p4 : List ℕ = to_le_bytes w32 1 in
    let ys4 : List ℕ = ys3 ++ p4 in
    let e4 : c.extend_from_slice-4.new.self.items ≡ old ++ ys4
    = added old ys3 p4 _ e3 c.in_ok-extend_from_slice-4.ensures.items c.to_le_bytes-3.ensures in
    let p5 : List ℕ = to_le_bytes w64 c.args.entry in
    let ys5 : List ℕ = ys4 ++ p5 in
    let e5 : c.extend_from_slice-5.new.self.items ≡ old ++ ys5
    = added old ys4 p5 _ e4 c.in_ok-extend_from_slice-5.ensures.items c.to_le_bytes-4.ensures in
    let p6 : List ℕ = to_le_bytes w64 64 in
    let ys6 : List ℕ = ys5 ++ p6 in
    let e6 : c.extend_from_slice-6.new.self.items ≡ old ++ ys6
    = added old ys5 p6 _ e5 c.in_ok-extend_from_slice-6.ensures.items c.to_le_bytes-5.ensures in
    let p7 : List ℕ = to_le_bytes w64 0 in
    let ys7 : List ℕ = ys6 ++ p7 in
    let e7 : c.extend_from_slice-7.new.self.items ≡ old ++ ys7
    = added old ys6 p7 _ e6 c.in_ok-extend_from_slice-7.ensures.items c.to_le_bytes-6.ensures in
    let p8 : List ℕ = to_le_bytes w32 0 in
    let ys8 : List ℕ = ys7 ++ p8 in
    let e8 : c.extend_from_slice-8.new.self.items ≡ old ++ ys8
    = added old ys7 p8 _ e7 c.in_ok-extend_from_slice-8.ensures.items c.to_le_bytes-7.ensures in
    let p9 : List ℕ = to_le_bytes w16 64 in
    let ys9 : List ℕ = ys8 ++ p9 in
    let e9 : c.extend_from_slice-9.new.self.items ≡ old ++ ys9
    = added old ys8 p9 _ e8 c.in_ok-extend_from_slice-9.ensures.items c.to_le_bytes-8.ensures in
    let p10 : List ℕ = to_le_bytes w16 56 in
    let ys10 : List ℕ = ys9 ++ p10 in
    let e10 : c.extend_from_slice-10.new.self.items ≡ old ++ ys10
    = added old ys9 p10 _ e9 c.in_ok-extend_from_slice-10.ensures.items c.to_le_bytes-9.ensures in
    let p11 : List ℕ = to_le_bytes w16 c.args.count in
    let ys11 : List ℕ = ys10 ++ p11 in
    let e11 : c.extend_from_slice-11.new.self.items ≡ old ++ ys11
    = added old ys10 p11 _ e10 c.in_ok-extend_from_slice-11.ensures.items c.to_le_bytes-10.ensures in
    let p12 : List ℕ = 0 ∷ 0 ∷ 0 ∷ 0 ∷ 0 ∷ 0 ∷ [] in
    let ys12 : List ℕ = ys11 ++ p12 in
    let e12 : c.extend_from_slice-12.new.self.items ≡ old ++ ys12
    = added old ys11 p12 _ e11 c.in_ok-extend_from_slice-12.ensures.items refl in
    e12
