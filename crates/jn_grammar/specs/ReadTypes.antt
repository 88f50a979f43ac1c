-- Reading names, terms, views and types. `left` more marks and prefix operators may be open.
use Rattle.std.specs.Prelude.{ℕ, zero, suc, Bool, true, false, List, [], ◌∷◌, length, Ok, Err, if◌then◌else◌}
use Rattle.jn_base.specs.declared.tree.Name.{Name}
use Rattle.jn_base.specs.declared.tree.Place.{Place}
use Rattle.jn_base.specs.declared.tree.Named.{Named}
use Rattle.jn_base.specs.declared.tree.Ref.{Ref}
use Rattle.jn_base.specs.declared.tree.Ref.TheVariants as ref
use Rattle.jn_base.specs.declared.tree.Head.TheVariants as head
use Rattle.jn_base.specs.declared.tree.Term.{Term}
use Rattle.jn_base.specs.declared.tree.ViewTerm.{ViewTerm}
use Rattle.jn_base.specs.declared.tree.TypeTerm.{TypeTerm}
use Rattle.jn_base.specs.declared.tree.TypeTerm.TheVariants as type_term
use Rattle.jn_base.specs.declared.refusal.Limit.TheVariants.{Nesting}
use Rattle.jn_base.specs.declared.word.Keyword.TheVariants.{Boolean, Class, Int, This}
use Rattle.jn_base.specs.declared.word.Mark.TheVariants.{Ampersand, Backslash, Bang, CloseBracket, Dot, OpenBracket}
use Rattle.jn_base.specs.declared.word.Word.{Word}
use Rattle.jn_base.specs.declared.word.Word.TheVariants.{Name as Named_, Keyword as Key, Mark as Marked}
use Rattle.jn_base.specs.declared.word.Lexeme.{Lexeme}
use Rattle.jn_base.specs.Parts.{Atom, term}
use Rattle.jn_grammar.specs.declared.fault.Fault.TheVariants.{Passed}
use Rattle.jn_grammar.specs.Begins.{begins, behind}
use Rattle.jn_grammar.specs.Answers.{Answer, ◌>>=◌, here, expect, name_in, within, row}

-- behind a dot
unfoldable pub dot_in : ℕ → List Lexeme → Answer Name
dot_in k ts = do
  x ← name_in (behind ts)
  Ok (x.0.name, x.1)

abbrev pub dots_in : List Lexeme → Answer (List Name)
dots_in ts = row (begins (Marked Dot)) dot_in 1 ts

-- the exact names and the others, where these names stand before
unfoldable pub bang_in : List Name → List Lexeme → Answer (List Name × List Name)
bang_in xs ts = if begins (Marked Bang) ts then (do
  ys ← dots_in (behind ts)
  Ok ((xs, ys.0), ys.1)) else Ok (([], xs), ts)

unfoldable pub names_in : List Lexeme → Answer (List Name × List Name)
names_in ts = do
  x ← name_in ts
  xs ← dots_in x.1
  bang_in (x.0.name ∷ xs.0) xs.1

unfoldable pub tail_in : List Lexeme → Answer (List Name × List Name)
tail_in ts = if begins (Marked Dot) ts then names_in (behind ts) else Ok (([], []), ts)

abbrev pub ref_by : Word → Lexeme → List Lexeme → Answer Ref
ref_by (Key This) t ts = Ok (ref.This, ts)
ref_by (Named_ x) t ts = Ok (ref.Var x, ts)
ref_by w t ts = here (t ∷ ts)

unfoldable pub ref_in : List Lexeme → Answer Ref
ref_in [] = here []
ref_in (t ∷ ts) = ref_by t.word t ts

-- "." "class"
unfoldable pub class_in : List Lexeme → Answer Place
class_in ts = do
  o ← expect (Marked Dot) ts
  expect (Key Class) o.1

-- a term at p, behind its "class"
unfoldable pub own_in : Place → Ref → List Lexeme → Answer Term
own_in p r ts = do
  x ← tail_in ts
  Ok (term (head.Own r) x.0.0 x.0.1 p, x.1)

-- a term at p with these names in front, from its "[" on
unfoldable pub prefix_in : ℕ → Place → List Name → List Lexeme → Answer Term
prefix_in zero p xs ts = Err (Passed Nesting (length ts))
prefix_in (suc left) p xs ts = do
  r ← ref_in (behind ts)
  c ← class_in r.1
  shut ← expect (Marked CloseBracket) c.1
  x ← tail_in shut.1
  Ok (term (head.Prefix xs r.0) x.0.0 x.0.1 p, x.1)

-- a term at p, behind these names
unfoldable pub after_names_in : ℕ → Place → List Name → List Lexeme → Answer Term
after_names_in left p xs ts = if begins (Marked OpenBracket) ts then prefix_in left p xs ts else (do
  x ← bang_in xs ts
  Ok (term head.Plain x.0.0 x.0.1 p, x.1))

-- a term at p, behind a name and a dot
unfoldable pub name_or_class_in : ℕ → Place → Name → List Lexeme → Answer Term
name_or_class_in left p x ts = if begins (Key Class) ts then own_in p (ref.Var x) (behind ts) else (do
  y ← name_in ts
  ys ← dots_in y.1
  after_names_in left p (x ∷ y.0.name ∷ ys.0) ys.1)

-- a term at p, behind its first name
unfoldable pub after_name_in : ℕ → Place → Name → List Lexeme → Answer Term
after_name_in left p x ts = if begins (Marked Dot) ts then name_or_class_in left p x (behind ts) else after_names_in left p (x ∷ []) ts

unfoldable pub term_by : ℕ → Word → Lexeme → List Lexeme → Answer Term
term_by left (Key This) t ts = do
  c ← class_in ts
  own_in t.at ref.This c.1
term_by left (Named_ x) t ts = after_name_in left t.at x ts
term_by left w t ts = here (t ∷ ts)

unfoldable pub term_in : ℕ → List Lexeme → Answer Term
term_in left [] = here []
term_in left (t ∷ ts) = term_by left t.word t ts

-- behind a backslash
unfoldable pub mask_in : ℕ → List Lexeme → Answer Named
mask_in k ts = name_in (behind ts)

abbrev pub masks_in : List Lexeme → Answer (List Named)
masks_in ts = row (begins (Marked Backslash)) mask_in 1 ts

unfoldable pub view_in : ℕ → List Lexeme → Answer ViewTerm
view_in left ts = do
  t ← term_in left ts
  ms ← masks_in t.1
  Ok (record { term = t.0; masks = ms.0 }, ms.1)

-- a term begins with one of these
abbrev pub is_head : Word → Bool
is_head (Key This) = true
is_head (Named_ x) = true
is_head w = false

abbrev pub begins_term : List Lexeme → Bool
begins_term [] = false
begins_term (t ∷ ts) = is_head t.word

-- the k-th term of a type
unfoldable pub atom_in : Bool → ℕ → ℕ → List Lexeme → Answer Term
atom_in strict left k ts = if begins_term ts then within strict (Atom k) ts (term_in left ts) else here ts

-- behind an ampersand
unfoldable pub next_atom_in : Bool → ℕ → ℕ → List Lexeme → Answer Term
next_atom_in strict left k ts = atom_in strict left k (behind ts)

unfoldable pub atoms_in : Bool → ℕ → List Lexeme → Answer (List Term)
atoms_in strict left ts = do
  t ← atom_in strict left 1 ts
  others ← row (begins (Marked Ampersand)) (next_atom_in strict left) 2 t.1
  Ok (t.0 ∷ others.0, others.1)

unfoldable pub class_type_in : Bool → ℕ → List Lexeme → Answer TypeTerm
class_type_in strict left ts = do
  atoms ← atoms_in strict left ts
  ms ← masks_in atoms.1
  Ok (type_term.Class atoms.0 ms.0, ms.1)

unfoldable pub type_in : Bool → ℕ → List Lexeme → Answer TypeTerm
type_in strict left ts = if begins (Key Int) ts then Ok (type_term.Int, behind ts)
    else (if begins (Key Boolean) ts then Ok (type_term.Bool, behind ts) else class_type_in strict left ts)
