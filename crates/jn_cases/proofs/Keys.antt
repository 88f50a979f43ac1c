-- The keys of a table's data are those of its entries.
use Rattle.std.proofs.Common.{◌≡◌, ◌∷◌, [], List, map, refl, ap, ℕ, All, IfNone, Option, None, Some, String, Global, string_bytes}
use Rattle.std.proofs.lemmas.List.Elements.{All-map}
use Rattle.std.specs.BTreeMap.{BTreeMap, keys}
use Rattle.toml.specs.View.{members_view, table_view}
use Rattle.toml.specs.declared.value.Value.{Value}
use Rattle.jn_cases.specs.Cases.{keys_in}

-- key by key
pub keys_of_members : (es : List (String Global × Value)) → keys_in (members_view es) ≡ map string_bytes (map (λ e. e.0) es)
keys_of_members [] = refl
keys_of_members (e ∷ es) = ap (λ ks. string_bytes e.0 ∷ ks) (keys_of_members es)

-- what holds of each key of a table holds of each key of its data
pub all_keys_in : (P : List ℕ → Type 0) (m : BTreeMap (String Global) Value) →
    All (λ key. P (string_bytes key)) (keys m) → All P (keys_in (table_view m))
all_keys_in P m all = rw (keys_of_members m.entries) (All-map P string_bytes (keys m) all)

-- the same where no key was found
pub none_in : {A : Type 0} (r : Option A) (P : List ℕ → Type 0) (m : BTreeMap (String Global) Value) →
    IfNone r (All (λ key. P (string_bytes key)) (keys m)) → IfNone r (All P (keys_in (table_view m)))
none_in None P m all = all_keys_in P m all
none_in (Some x) P m all = all
