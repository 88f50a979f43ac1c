-- What the parser of command lines answers is what the definition says of the words.
use Rattle.std.proofs.Common.{◌≡◌, ◌∙◌, Bool, true, false, cond, ◌||◌, refl, sym, ap, ap₂, subst, List, [], ◌∷◌, map, Option, Some, None, is_some, inl, inr}
use Rattle.std.specs.Prelude.{string_bytes}
use Rattle.std.specs.declared.string.String.{String}
use Rattle.std.specs.List.{fold}
use Rattle.std.proofs.lemmas.Str.{IsUtf8-string_bytes}
use Rattle.clap.specs.Words.{App, Row, Rule, HasMatchesOf, HasKind, Kinds, fault_of, found_of, is_simple, is_simple_and_free, kind_of, matches_of, rows_of}
use Rattle.clap.specs.Kinds.{or_else}
use Rattle.clap.specs.Walk.{Text, Walk, finished, has_row, reading_by, default_rows, with_default}
use Rattle.clap.specs.Simple.{built, entered}
use Rattle.clap.specs.Faults.{check_fault, default_fault, defaults_fault, entered_fault, given_default_fault}
use Rattle.clap.specs.declared.error.Error.{Error}
use Rattle.clap.specs.declared.error.kind.ErrorKind.TheVariants.{OutOfMemory}
use Rattle.clap.specs.declared.parser.matches.ArgMatches.{ArgMatches}
use Rattle.jn_jobs.specs.Parts.{Parts, parts}
use Rattle.jn_jobs.specs.Command.{command, parts_of}
use Rattle.jn_jobs.proofs.Words.{shape, rules}
use Rattle.jn_jobs.proofs.Walks.{AllTexts, Fails, Goes, after_all, all_go, between, fault_left, last_rows}

-- no argument has a default
abbrev NoDefaults : List Rule → Type 0
NoDefaults [] = Unit {0}
NoDefaults (a ∷ rest) = (a.defaults ≡ []) × NoDefaults rest

default_none : (rows : List Row) (a : Rule) → a.defaults ≡ [] → with_default rows a ≡ rows
default_none rows a e = go (has_row a.id rows) ∙ refl
  where
    go : (b : Bool) → cond b rows (default_rows a.id (reading_by a) a.defaults rows) ≡ rows
    go true = refl
    go false = ap (λ (ds : List Text). default_rows a.id (reading_by a) ds rows) e

fault_none : (rows : List Row) (a : Rule) → a.defaults ≡ [] → default_fault rows a ≡ []
fault_none rows a e = rw e (go (has_row a.id rows))
  where
    go : (b : Bool) → cond (b || true) [] (given_default_fault a []) ≡ []
    go true = refl
    go false = refl

same_rows : (rs : List Rule) (rows : List Row) → NoDefaults rs → fold with_default rows rs ≡ rows
same_rows [] rows n = refl
same_rows (a ∷ rs) rows n = ap (λ (r : List Row). fold with_default r rs) (default_none rows a n.0) ∙ same_rows rs rows n.1

no_faults : (rs : List Rule) (rows : List Row) → NoDefaults rs → defaults_fault rows rs ≡ []
unfolding defaults_fault
no_faults [] rows n = refl
no_faults (a ∷ rs) rows n = ap₂ or_else (fault_none rows a n.0) (ap (λ (r : List Row). defaults_fault r rs) (default_none rows a n.0) ∙ no_faults rs rows n.1)

none_here : NoDefaults rules
none_here = (refl, (refl, (refl, (refl, tt))))

below_none : (stop : Option (Text × List Text)) → entered_fault (built command) stop ≡ []
below_none None = refl
below_none (Some p) = refl

checks_none : (stop : Option (Text × List Text)) (rows : List Row) → check_fault shape rows (is_some (entered (built command) stop)) ≡ []
checks_none None rows = refl
checks_none (Some p) rows = refl

or_else_none : (a : Kinds) → or_else a [] ≡ a
or_else_none [] = refl
or_else_none (k ∷ ks) = refl

abbrev start : Walk
start = between false false None []

abbrev level : Kinds → Kinds → Kinds → Kinds → Kinds → Kinds
level a b c d e = or_else a (or_else b (or_else c (or_else d e)))

level_is : (a b c d e : Kinds) → b ≡ [] → d ≡ [] → e ≡ [] → level a b c d e ≡ or_else a c
level_is a b c d e nb nd ne = rw (nb, nd, ne) (ap (or_else a) (or_else_none c))

fault_is : (ws : List Text) → fault_of command ws ≡ fault_left start ws
fault_is ws = level_is _ _ _ _ _ (below_none _) (no_faults rules _ none_here) (checks_none _ (finished rules (after_all start ws).held))

matches_is : (ws : List Text) → matches_of command ws ≡ last_rows start ws
matches_is ws = same_rows rules (last_rows start ws) none_here

parts_same : (p q : Parts) → p.positional ≡ q.positional → p.arena ≡ q.arena → p.depth ≡ q.depth → p.steps ≡ q.steps → p ≡ q
parts_same p q a b c d =
    ap₂ (λ (x y : List Text). record p { positional = x; arena = y }) a b
    ∙ ap₂ (λ (x y : List Text). record q { depth = x; steps = y }) c d

-- ---- both answers

found_from : (o : Option Parts) (fault : Kinds) (rows : List Row) → Goes o [] fault rows → fault ≡ [] → o ≡ Some (parts_of rows)
found_from None fault rows g none = absurd (g none)
found_from (Some p) fault rows g none = ap (λ (q : Parts). Some q) (parts_same p (parts_of rows) (sym g.1.positional) (sym g.1.arena) (sym g.1.depth) (sym g.1.steps))

refused_from : (o : Option Parts) (fault : Kinds) (rows : List Row) → Goes o [] fault rows → Fails fault → o ≡ None
refused_from None fault rows g fails = refl
refused_from (Some p) fault rows g fails = absurd (fails g.0)

simple : is_simple command ≡ true
simple = refl

free : is_simple_and_free command ≡ true
free = refl

pub found_is : (a : App) (ws : List Text) (m : ArgMatches) → a ≡ command → AllTexts ws → HasMatchesOf a ws m
    → (is_simple_and_free a ≡ true → fault_of a ws ≡ []) → parts ws None ≡ Some (parts_of (rows_of (found_of m)))
found_is a ws m is texts has none =
    let here : HasMatchesOf command ws m = subst (λ (b : App). HasMatchesOf b ws m) is has in
    let none_at : is_simple_and_free command ≡ true → fault_of command ws ≡ [] = subst (λ (b : App). is_simple_and_free b ≡ true → fault_of b ws ≡ []) is none in
    found_from (parts ws None) (fault_left start ws) (last_rows start ws) (all_go ws texts None false None []) (sym (fault_is ws) ∙ none_at free)
    ∙ ap (λ (rows : List Row). Some (parts_of rows)) (sym (matches_is ws) ∙ sym (here simple).0)

some_kind : (k : Kinds) (e : Error) → HasKind k e → (kind_of e ≡ OutOfMemory → ⊥) → Fails k
some_kind [] e h other = elim h [
  | inl memory ↦ absurd (other memory)
  | inr among ↦ absurd among
]
some_kind (x ∷ xs) e h other = λ same. cc

pub refused_is : (a : App) (ws : List Text) (e : Error) → a ≡ command → AllTexts ws → (is_simple_and_free a ≡ true → HasKind (fault_of a ws) e)
    → (kind_of e ≡ OutOfMemory → ⊥) → parts ws None ≡ None
refused_is a ws e is texts has other =
    let has_at : is_simple_and_free command ≡ true → HasKind (fault_of command ws) e = subst (λ (b : App). is_simple_and_free b ≡ true → HasKind (fault_of b ws) e) is has in
    let fails : Fails (fault_of command ws) = some_kind (fault_of command ws) e (has_at free) other in
    refused_from (parts ws None) (fault_left start ws) (last_rows start ws) (all_go ws texts None false None []) (subst Fails (fault_is ws) fails)

-- each word is a text
pub all_texts : {Z : Type 0} (ws : List (String Z)) → AllTexts (map string_bytes ws)
all_texts [] = tt
all_texts (w ∷ ws) = (IsUtf8-string_bytes w, all_texts ws)
