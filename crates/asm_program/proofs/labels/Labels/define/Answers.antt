use Rattle.std.proofs.Common.{◌≡◌, ℕ, ◌-◌, ◌+◌, ◌^◌, List, Option, Some}
use Rattle.std.proofs.Common.{ap, ◌∙◌, arith, bytes_eq}
use Rattle.std.proofs.Math.Path.{fun_ext}
use Rattle.std.proofs.lemmas.Map.Text.{hash_map_updates_str}
use Rattle.std.specs.HashMap.{get_by}
use Rattle.std.specs.Map.{update}
use Rattle.asm_program.proofs.Defining.{low_more, high_more}
use Rattle.asm_program.specs.Held.{address_among, labels_of}
use Rattle.asm_program.proofs.labels.Labels.define.Goals as goal

pub returns-in_ok-insert : goal.returns-in_ok-insert
returns-in_ok-insert c =
    let old = c.args.self.now in
    let low : List ℕ → Option ℕ = λ name. get_by (λ k. bytes_eq name k.now) old.low in
    let high : List ℕ → Option ℕ = λ name. get_by (λ k. bytes_eq name k.now) old.high in
    fun_ext (λ other. ap (λ address. address_among address (high other))
    (hash_map_updates_str c.args.name.now old.low c.insert.new.self (Some c.args.address)
    c.in_ok-insert.ensures.updates other)
    ∙ low_more low high c.args.name.now c.args.address other)

pub returns-in_ok-insert-2 : goal.returns-in_ok-insert-2
returns-in_ok-insert-2 c =
    let old = c.args.self.now in
    let low : List ℕ → Option ℕ = λ name. get_by (λ k. bytes_eq name k.now) old.low in
    let high : List ℕ → Option ℕ = λ name. get_by (λ k. bytes_eq name k.now) old.high in
    let over = c.args.address - 2 ^ 64 in
    let sum : 2 ^ 64 + over ≡ c.args.address = omega (arith, c.if-address-lt-END.false) in
    fun_ext (λ other. ap (λ n. address_among (low other) n)
    (hash_map_updates_str c.args.name.now old.high c.insert-else-address-lt-END.new.self (Some over)
    c.in_ok-insert-2.ensures.updates other)
    ∙ high_more low high c.args.name.now over other c.requires.new
    ∙ ap (λ n. update bytes_eq (labels_of old) c.args.name.now (Some n) other) sum)
