-- That a counted space is sound is one fact, known in one way.
use denote.Struct.Props as logic
use Rattle.counted_store.specs.Counted.{IsCounted}
use Rattle.counted_store.specs.declared.counted.Counted.{Counted}

pub IsCounted-prop : (counted : Counted) → IsProp (IsCounted counted)
IsCounted-prop counted = hlevel logic.props
