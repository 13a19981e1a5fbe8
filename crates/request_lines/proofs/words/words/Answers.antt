use Rattle.std.proofs.Common.{◌≡◌, arith}
use Rattle.std.proofs.lemmas.Bool.Decides.{nat_tests}
use Rattle.std.specs.List.{count_by}
use Rattle.request_lines.specs.Requests.{is_space}
use Rattle.request_lines.proofs.Spaces.{stands}
use Rattle.request_lines.proofs.words.words.Goals as goal

pub slice_bounds-result-start : goal.slice_bounds-result-start
slice_bounds-result-start c =
    let one : count_by is_space c.args.line.now ≡ 1 = grind (arith, nat_tests) in
    let here = stands is_space c.args.line.now one in
    omega arith

pub slice_bounds-result-count : goal.slice_bounds-result-count
slice_bounds-result-count c =
    let one : count_by is_space c.args.line.now ≡ 1 = grind (arith, nat_tests) in
    let here = stands is_space c.args.line.now one in
    omega arith
