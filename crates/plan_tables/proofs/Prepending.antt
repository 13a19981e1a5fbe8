-- A list that is built from the front: what is done, before what the rest gives.
use Rattle.std.proofs.Common.{◌≡◌, List, [], ◌++◌, Option, Some, None, refl, ap}
use Rattle.std.proofs.Common.{append-nil}

abbrev pub prepended : {X : Type 0} → List X → Option (List X) → Option (List X)
prepended done None = None
prepended done (Some rest) = Some (done ++ rest)

pub prepended_none : {X : Type 0} (rest : Option (List X)) → prepended [] rest ≡ rest
prepended_none None = refl
prepended_none (Some rest) = refl

pub prepended_all : {X : Type 0} (done : List X) → prepended done (Some []) ≡ Some done
prepended_all done = ap Some (append-nil done)
