-- What may be done with the bytes of a page.
use Rattle.std.specs.Prelude.{ℕ, ◌+◌, Bool, false, ◌&&◌, ◌||◌, nat_le, nat_lt, if◌then◌else◌}
use Rattle.std.specs.Prelude.{List, [], ◌∷◌}
use Rattle.image_model.specs.declared.region.Region.{Region}

pub record Permission : Type 0 where
  pub readable : Bool
  pub writable : Bool
  pub executable : Bool

abbrev pub no_permission : Permission
no_permission = record { readable = false; writable = false; executable = false }

abbrev pub is_some_permission : Permission → Bool
is_some_permission p = p.readable || p.writable || p.executable

-- what the one or the other allows
abbrev pub joined_permission : Permission → Permission → Permission
joined_permission p q = record {
  readable = p.readable || q.readable;
  writable = p.writable || q.writable;
  executable = p.executable || q.executable;
}

-- ---- by regions

abbrev pub region_permission : Region → Permission
region_permission r = record { readable = r.r; writable = r.w; executable = r.x }

abbrev pub has_page : Region → ℕ → Bool
has_page r page = nat_le r.page page && nat_lt page (r.page + r.count)

-- a page has the permission of its region, and none outside all regions
abbrev pub permission_in : List Region → ℕ → Permission
permission_in [] page = no_permission
permission_in (r ∷ rs) page = if has_page r page then region_permission r else permission_in rs page
