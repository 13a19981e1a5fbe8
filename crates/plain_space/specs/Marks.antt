-- Pages that count as written.
use Rattle.std.specs.Prelude.{nat_lt, Bool, ◌&&◌}
use Rattle.image_model.specs.Pages.{page_limit}
use Rattle.plain_space.specs.declared.page.Page.{Page}

-- a page of programs that was written
abbrev pub is_marked : Page → Bool
is_marked p = p.written && nat_lt p.number page_limit
