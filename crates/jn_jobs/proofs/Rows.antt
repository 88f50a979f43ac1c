-- What the rows of the parser's matches have under an id after one more value.
use Rattle.std.proofs.Common.{◌≡◌, Bool, true, false, cond, refl, sym, subst, List, [], ◌∷◌, ◌++◌, Option, Some}
use Rattle.std.specs.Prelude.{bytes_eq, find, unwrap_or, option_map}
use Rattle.std.proofs.lemmas.Slice.Eq.{bytes_eq-Decides}
use Rattle.clap.specs.Walk.{Row, Text, more_values, with_values}
use Rattle.clap.specs.declared.builder.value_parser.Reading.{Reading}
use Rattle.clap.specs.declared.parser.matches.ValueSource.{ValueSource}
use Rattle.jn_jobs.specs.Command.{values_of}

abbrev values_in : Option Row → List Text
values_in o = unwrap_or (option_map (λ (r : Row). r.values) o) []

-- Values under an id come behind those that stand there.
pub values_added : (id : Text) (how : Reading) (s : ValueSource) (values : List Text) (rows : List Row) → bytes_eq id id ≡ true
    → values_of id (with_values id how s values rows) ≡ values_of id rows ++ values
values_added id how s values [] same = rw same refl
values_added id how s values (r ∷ rs) same = go (bytes_eq r.id id) refl (values_added id how s values rs same)
  where
    go : (b : Bool) → bytes_eq r.id id ≡ b → values_of id (with_values id how s values rs) ≡ values_of id rs ++ values
        → values_in (find (λ (x : Row). bytes_eq x.id id) (cond b (more_values s values r ++ rs) (r ∷ with_values id how s values rs)))
        ≡ values_in (cond b (Some r) (find (λ (x : Row). bytes_eq x.id id) rs)) ++ values
    go true e more = rw e refl
    go false e more = rw e more

-- Those under another id stay.
pub values_kept : (id other : Text) (how : Reading) (s : ValueSource) (values : List Text) (rows : List Row) → bytes_eq other id ≡ false
    → values_of id (with_values other how s values rows) ≡ values_of id rows
values_kept id other how s values [] differ = rw differ refl
values_kept id other how s values (r ∷ rs) differ = go (bytes_eq r.id other) refl (values_kept id other how s values rs differ)
  where
    behind : (d : Bool) → values_of id (with_values other how s values rs) ≡ values_of id rs
        → values_in (cond d (Some r) (find (λ (x : Row). bytes_eq x.id id) (with_values other how s values rs)))
        ≡ values_in (cond d (Some r) (find (λ (x : Row). bytes_eq x.id id) rs))
    behind true more = refl
    behind false more = more

    go : (b : Bool) → bytes_eq r.id other ≡ b → values_of id (with_values other how s values rs) ≡ values_of id rs
        → values_in (find (λ (x : Row). bytes_eq x.id id) (cond b (more_values s values r ++ rs) (r ∷ with_values other how s values rs)))
        ≡ values_in (cond (bytes_eq r.id id) (Some r) (find (λ (x : Row). bytes_eq x.id id) rs))
    go true e more =
        let here : r.id ≡ other = (bytes_eq-Decides r.id other).0 e in
        let none : bytes_eq r.id id ≡ false = subst (λ (t : Text). bytes_eq t id ≡ false) (sym here) differ in
        rw none refl
    go false e more = behind (bytes_eq r.id id) more
