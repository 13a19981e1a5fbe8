use Rattle.std.proofs.Common.{ltb, rules}
use Rattle.std.proofs.lemmas.List.Sorted.{IsPartitionPoint-from_clause, IsPartitionedBy-ltb}
use Rattle.plain_space.proofs.Lists.{numbers_never_fall, split_of}
use Rattle.plain_space.proofs.pages.Pages.place.Goals as goal

pub returns : goal.returns
returns c =
    let pages = c.args.self.now.list.items in
    let same = c.deref.ensures.value in
    let n = c.args.number in
    let rise = numbers_never_fall _ 0 pages c.requires.ordered in
    let parted = IsPartitionedBy-ltb (λ p. p.number) pages n rise in
    let i = c.partition_point.result in
    let point = IsPartitionPoint-from_clause (λ p. ltb p.number n) c.deref.result.now i
    c.partition_point.ensures.partitioned (rw same parted) (λ a r q k. search rules) in
    rw same at (split_of c.deref.result.now n i c.partition_point.ensures.bound point)
