-- Neighbouring pages.
use Rattle.std.specs.Prelude.{ℕ, Bool, ◌&&◌, nat_le, nat_lt}
use Rattle.image_start.specs.declared.page_span.PageSpan.{PageSpan}

-- the page is among them
abbrev pub has : PageSpan → ℕ → Bool
has span page = nat_le span.first page && nat_lt page span.end
