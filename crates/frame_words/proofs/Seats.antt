-- What the seats of a table stand for, and the views among it.
use Rattle.std.proofs.Common.{◌≡◌, ℕ, zero, suc, List, [], ◌∷◌, ◌++◌, set, refl, sym, ap}
use Rattle.std.proofs.Common.{subst, ◌∙◌}
use mathlib.Core.Option.{some}
use lib.ListN.{get_elem?}
use Rattle.atomic_table.proofs.Lists.{at_map, set_here}
use Rattle.frame_model.specs.declared.holding.Holding.{Holding}
use Rattle.frame_model.specs.declared.view.View.{View}
use Rattle.frame_model.specs.Holdings.{views_of}
use Rattle.frame_model.specs.Views.{IsSound}
use Rattle.frame_model.specs.Words.{Frames}
use Rattle.frame_model.specs.Rule.{At, FrameRule}
use Rattle.frame_model.proofs.Rules.{sound}
use Rattle.frame_words.proofs.News.{at_length}

pub seen_at : (hs : List Holding) (id : ℕ) (h : Holding) → get_elem? hs id ≡ some h
    → At (views_of hs) id h.view
seen_at hs id h at = at_map (λ (x : Holding). x.view) hs id h at

pub views_set : (hs : List Holding) (id : ℕ) (h : Holding)
    → views_of (set hs id h) ≡ set (views_of hs) id h.view
views_set [] id h = refl
views_set (x ∷ xs) zero h = refl
views_set (x ∷ xs) (suc id) h = ap (λ (vs : List View). x.view ∷ vs) (views_set xs id h)

views_more : (hs : List Holding) (h : Holding)
    → views_of (hs ++ h ∷ []) ≡ views_of hs ++ h.view ∷ []
views_more [] h = refl
views_more (x ∷ xs) h = ap (λ (vs : List View). x.view ∷ vs) (views_more xs h)

module _ (n : ℕ) (m : Frames) (hs : List Holding) (id : ℕ) (h : Holding) where
  -- one holder's view changed
  pub rule_set : FrameRule n m (set (views_of hs) id h.view)
      → FrameRule n m (views_of (set hs id h))
  rule_set rule = subst (λ (vs : List View). FrameRule n m vs) (sym (views_set hs id h)) rule

  -- and a holder came
  pub rule_more : (k : Holding) → FrameRule n m (set (views_of hs) id h.view ++ k.view ∷ [])
      → FrameRule n m (views_of (set hs id h ++ k ∷ []))
  rule_more k rule =
      let e : views_of (set hs id h ++ k ∷ []) ≡ set (views_of hs) id h.view ++ k.view ∷ [] =
      views_more (set hs id h) k ∙ ap (λ (vs : List View). vs ++ k.view ∷ []) (views_set hs id h) in
      subst (λ (vs : List View). FrameRule n m vs) (sym e) rule

  -- two holders' views changed
  pub rule_set_two : (other : ℕ) (k : Holding)
      → FrameRule n m (set (set (views_of hs) id h.view) other k.view)
      → FrameRule n m (views_of (set (set hs id h) other k))
  rule_set_two other k rule =
      let e : views_of (set (set hs id h) other k)
      ≡ set (set (views_of hs) id h.view) other k.view =
      views_set (set hs id h) other k
      ∙ ap (λ (vs : List View). set vs other k.view) (views_set hs id h) in
      subst (λ (vs : List View). FrameRule n m vs) (sym e) rule

  -- the view after a step is sound
  pub now_sound : (was : Holding) → get_elem? hs id ≡ some was
      → FrameRule n m (views_of (set hs id h)) → IsSound h.view
  now_sound was at rule =
      let here = set_here hs id h (at_length hs id was at) in
      sound n m (views_of (set hs id h)) rule id h.view (seen_at (set hs id h) id h here)
