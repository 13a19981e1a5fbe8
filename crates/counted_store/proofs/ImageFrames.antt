-- Pages with their bytes, as a set, and their frames.
use Rattle.std.proofs.Common.{◌≡◌, ℕ, zero, suc, ◌+◌, ◌-◌, ◌<◌, ◌≤◌, ◌||◌, ◌==◌, Bool, List}
use Rattle.std.proofs.Common.{[], ◌∷◌}
use Rattle.std.proofs.Common.{◌++◌, map, take, length, get_or, refl, sym, ap, ◌∙◌, arith}
use Rattle.std.specs.List.{list_any}
use Rattle.std.proofs.lemmas.List.{map_more, take_all}
use Rattle.image_model.specs.Layout.{ArePages}
use Rattle.image_model.specs.Pages.{page_limit}
use Rattle.image_model.specs.declared.region.PageBytes.{PageBytes}
use Rattle.space_api.specs.Frames.{frames_of}
use Rattle.space_api.specs.Stores.{lists_page}
use Rattle.space_api.proofs.Frames.{no_frames}
use Rattle.space_laws.specs.Growth.{with_pages, page_need}
use Rattle.space_laws.proofs.Rows.{row-none}
use Rattle.space_laws.proofs.Spans.{frames-more, frames-same}
use Rattle.counted_space.specs.Marks.{is_marked}
use Rattle.counted_space.proofs.Lists.{marked-push}

pub any-numbers : (test : ℕ → Bool) (pages : List PageBytes)
    → list_any test (map (λ page. page.page) pages) ≡ list_any (λ page. test page.page) pages
any-numbers test [] = refl
any-numbers test (p ∷ ps) = ap (λ b. test p.page || b) (any-numbers test ps)

pub page-below : (lowest : ℕ) (pages : List PageBytes) (i : ℕ) (d : PageBytes)
    → ArePages lowest pages → i < length pages → (get_or pages i d).page < page_limit
page-below lowest [] i d are lt = absurd (omega arith)
page-below lowest (p ∷ ps) zero d are lt = are.0.below
page-below lowest (p ∷ ps) (suc i) d are lt =
    page-below (p.page + 1) ps i d are.1 (omega arith)

row-empty : (set : ℕ → Bool) (page q : ℕ) → with_pages page (page - page) set q ≡ set q
row-empty set page q =
    let none : page - page ≡ 0 = omega arith in
    ap (λ n. with_pages page n set q) none ∙ row-none set page q

-- one page more
pub frames-next : (pages : List PageBytes) (i need here : ℕ) (d : PageBytes) → i < length pages
    → (get_or pages i d).page < page_limit
    → need ≡ frames_of (is_marked (map (λ page. page.page) (take i pages))) + 1
    → here ≡ page_need (with_pages (get_or pages i d).page
    ((get_or pages i d).page - (get_or pages i d).page)
    (is_marked (map (λ page. page.page) (take i pages)))) (get_or pages i d).page
    → need + here ≡ frames_of (is_marked (map (λ page. page.page) (take (i + 1) pages))) + 1
frames-next pages i need here d lt below before e =
    let page = (get_or pages i d).page in
    let numbers = map (λ page. page.page) (take i pages) in
    let set = with_pages page (page - page) (is_marked numbers) in
    let more = frames-more set (is_marked (numbers ++ page ∷ [])) page below
    (λ q. marked-push numbers page q
    ∙ ap (λ b. b || q == page) (sym (row-empty (is_marked numbers) page q))) in
    let same = frames-same (is_marked numbers) set (row-empty (is_marked numbers) page) in
    let all = ap (λ ps. frames_of (is_marked ps)) (map_more (λ page. page.page) pages i d lt) in
    omega (arith, more, same, all, before, e)

listed : (pages : List PageBytes) (q : ℕ)
    → lists_page pages q ≡ is_marked (map (λ page. page.page) pages) q
listed [] q = refl
listed (p ∷ ps) q = ap (λ b. p.page == q || b) (listed ps q)

pub frames-all : (pages : List PageBytes) (n need : ℕ) → length pages ≤ n
    → need ≡ frames_of (is_marked (map (λ page. page.page) (take n pages))) + 1
    → need ≡ frames_of (lists_page pages) + 1
frames-all pages n need le all =
    all ∙ ap (λ ps. frames_of (is_marked (map (λ page. page.page) ps)) + 1) (take_all n pages le)
    ∙ ap (λ f. f + 1) (sym (frames-same (is_marked (map (λ page. page.page) pages))
    (lists_page pages) (listed pages)))

pub frames-none : 1 ≡ frames_of (is_marked []) + 1
frames-none = sym (ap (λ f. f + 1) no_frames)
