-- The texts of packets, joined one after another.
use Rattle.std.proofs.Common.{◌≡◌, ◌≢◌, ℕ, zero, suc, ◌+◌, ◌<◌, ◌≤◌, List, [], ◌∷◌, ◌++◌, length, map, take, get_or, refl, sym, ap, ◌∙◌, arith}
use Rattle.std.proofs.lemmas.List.{append_assoc, take_more}
use Rattle.std.specs.List.{join_with_byte}
use Rattle.call_command.specs.ReplyLine.{bytes_text, packets_text}

abbrev pub texts : List (List ℕ) → List ℕ
texts ps = join_with_byte 47 (map bytes_text ps)

join_more : (first : List ℕ) (ps : List (List ℕ)) (p : List ℕ) →
    texts ((first ∷ ps) ++ (p ∷ [])) ≡ texts (first ∷ ps) ++ (47 ∷ bytes_text p)
join_more first [] p = refl
join_more first (q ∷ ps) p =
    ap (λ rest. bytes_text first ++ (47 ∷ rest)) (join_more q ps p)
    ∙ sym (append_assoc (bytes_text first) (47 ∷ texts (q ∷ ps)) (47 ∷ bytes_text p))

-- one more packet goes behind a slash
pub texts_more : (ps : List (List ℕ)) (n : ℕ) → 1 ≤ n → n < length ps →
    texts (take (n + 1) ps) ≡ texts (take n ps) ++ (47 ∷ bytes_text (get_or ps n []))
texts_more [] n one within = absurd (grind arith)
texts_more (p ∷ ps) zero one within = absurd (grind arith)
texts_more (p ∷ ps) (suc n) one within =
    ap texts (take_more (p ∷ ps) (suc n) [] within) ∙ join_more p (take n ps) (get_or ps n [])

pub texts_one : (ps : List (List ℕ)) → length ps ≢ 0 → bytes_text (get_or ps 0 []) ≡ texts (take 1 ps)
texts_one [] some = absurd (some refl)
texts_one (p ∷ ps) some = refl

pub texts_none : (ps : List (List ℕ)) → length ps ≡ 0 → packets_text ps ≡ packets_text []
texts_none [] none = refl
texts_none (p ∷ ps) none = absurd (grind arith)

pub texts_all : (ps : List (List ℕ)) → length ps ≢ 0 → texts ps ≡ packets_text ps
texts_all [] some = absurd (some refl)
texts_all (p ∷ ps) some = refl
