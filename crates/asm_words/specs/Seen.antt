-- What references to words in pairs and triples point to.
use Rattle.std.specs.Prelude.{ℕ, List}
use Rattle.std.specs.Borrow.{Bor}

abbrev pub two_seen : Bor (List ℕ) × Bor (List ℕ) → List ℕ × List ℕ
two_seen ws = (ws.0.now, ws.1.now)

abbrev pub three_seen : Bor (List ℕ) × Bor (List ℕ) × Bor (List ℕ) → List ℕ × List ℕ × List ℕ
three_seen ws = (ws.0.now, ws.1.now, ws.2.now)
