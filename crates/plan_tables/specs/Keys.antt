-- The keys of a plan's text.
use Rattle.std.specs.Prelude.{ℕ, Bool, List, [], ◌∷◌, codes, Option, Some, None, if◌then◌else◌}
use Rattle.std.specs.List.{list_any}
use Rattle.std.specs.Str.{bytes_eq}
use Rattle.toml.specs.Data.{Data, Members, no_members, member, get_member}
use Rattle.plan_tables.specs.declared.key.Key.{Key}
use Rattle.plan_tables.specs.declared.key.Key.TheVariants as keys

abbrev pub key_text : Key → List ℕ
key_text keys.Frames = codes "frames"
key_text keys.Workers = codes "workers"
key_text keys.Idle = codes "idle"
key_text keys.Layers = codes "layers"
key_text keys.Uses = codes "uses"
key_text keys.Budget = codes "budget"
key_text keys.Prepare = codes "prepare"
key_text keys.Stack = codes "stack"
key_text keys.Clock = codes "clock"
key_text keys.Serve = codes "serve"
key_text keys.Layer = codes "layer"
key_text keys.Function = codes "function"
key_text keys.Name = codes "name"
key_text keys.Image = codes "image"
key_text keys.Below = codes "below"
key_text keys.Trigger = codes "trigger"
key_text keys.Packets = codes "packets"

-- ---- which keys each table has

abbrev pub top_keys : List Key
top_keys =
    keys.Frames ∷ keys.Workers ∷ keys.Idle ∷ keys.Layers ∷ keys.Uses ∷ keys.Budget ∷ keys.Prepare
    ∷ keys.Stack ∷ keys.Clock ∷ keys.Serve ∷ keys.Layer ∷ keys.Function ∷ []

abbrev pub layer_keys : List Key
layer_keys = keys.Name ∷ keys.Image ∷ keys.Below ∷ keys.Trigger ∷ keys.Packets ∷ []

abbrev pub function_keys : List Key
function_keys = keys.Name ∷ keys.Layer ∷ []

-- ---- the members of a table

-- what stands at a key
unfoldable pub value_at : Key → Members → Option Data
value_at key members = get_member (key_text key) members

-- the text is one of the keys
abbrev pub is_one_of : List Key → List ℕ → Bool
is_one_of known text = list_any (λ key. bytes_eq (key_text key) text) known

-- the first key, in byte order as the members stand, that is none of these
abbrev pub first_other : List Key → Members → Option (List ℕ)
first_other known no_members = None
first_other known (member text value rest) =
    if is_one_of known text then first_other known rest else Some text
