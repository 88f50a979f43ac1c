-- The grammar of names, terms, views and types. `IsX d w t`: the words w are an X with the tree t, where d marks and
-- prefix operators are open around them. A place p in front of the words is that of the first of them.
use Rattle.std.specs.Prelude.{ℕ, suc, List, [], ◌∷◌, ◌++◌}
use Rattle.jn_base.specs.declared.tree.Name.{Name}
use Rattle.jn_base.specs.declared.tree.Place.{Place}
use Rattle.jn_base.specs.declared.tree.Named.{Named}
use Rattle.jn_base.specs.declared.tree.Ref.{Ref}
use Rattle.jn_base.specs.declared.tree.Ref.TheVariants as ref
use Rattle.jn_base.specs.declared.tree.Head.TheVariants as head
use Rattle.jn_base.specs.declared.tree.Term.{Term}
use Rattle.jn_base.specs.declared.tree.ViewTerm.{ViewTerm}
use Rattle.jn_base.specs.declared.tree.TypeTerm.{TypeTerm}
use Rattle.jn_base.specs.declared.tree.TypeTerm.TheVariants as type_term
use Rattle.jn_base.specs.declared.word.Keyword.TheVariants.{Boolean, Class, Int, This}
use Rattle.jn_base.specs.declared.word.Mark.TheVariants.{Ampersand, Backslash, Bang, CloseBracket, Dot, OpenBracket}
use Rattle.jn_base.specs.Parts.{Part, key, mark, name, opening, atom, named, term}

-- Dotted = Name { "." Name }
pub data IsDotted : Place → List Part → List Name → Type 0 where
  one_name : {x : Name} {p : Place} → IsDotted p (name x p ∷ []) (x ∷ [])
  more_names : {x : Name} {p q : Place} (o : Place) {w : List Part} {xs : List Name} → IsDotted q w xs
      → IsDotted p (name x p ∷ mark Dot o ∷ w) (x ∷ xs)

-- { "." Name }
pub data IsDots : List Part → List Name → Type 0 where
  no_dot : IsDots [] []
  dot : {x : Name} {o p : Place} {w : List Part} {xs : List Name} → IsDots w xs
      → IsDots (mark Dot o ∷ name x p ∷ w) (x ∷ xs)

-- Dotted ["!" {"." Name}]: the names up to a "!" are exact, and the others loose
pub data IsNames : Place → List Part → List Name → List Name → Type 0 where
  loose : {p : Place} {w : List Part} {xs : List Name} → IsDotted p w xs → IsNames p w [] xs
  exact : {p : Place} (o : Place) {v w : List Part} {xs ys : List Name} → IsDotted p v xs → IsDots w ys
      → IsNames p (v ++ mark Bang o ∷ w) xs ys

-- [Tail], where Tail = "." Dotted ["!" {"." Name}]
pub data IsTail : List Part → List Name → List Name → Type 0 where
  no_tail : IsTail [] [] []
  tail : {o p : Place} {w : List Part} {es ns : List Name} → IsNames p w es ns → IsTail (mark Dot o ∷ w) es ns

-- Ref = "this" | Name
pub data IsRef : Place → Part → Ref → Type 0 where
  this : {p : Place} → IsRef p (key This p) ref.This
  variable : {x : Name} {p : Place} → IsRef p (name x p) (ref.Var x)

-- Term = Dotted ["!" {"." Name}] | Ref "." "class" [Tail] | Dotted "[" Ref "." "class" "]" [Tail]
pub data IsTerm : ℕ → Place → List Part → Term → Type 0 where
  plain : {d : ℕ} {p : Place} {w : List Part} {es ns : List Name} → IsNames p w es ns
      → IsTerm d p w (term head.Plain es ns p)
  own : {d : ℕ} {p : Place} (o c : Place) {t : Part} {r : Ref} {w : List Part} {es ns : List Name} → IsRef p t r → IsTail w es ns
      → IsTerm d p (t ∷ mark Dot o ∷ key Class c ∷ w) (term (head.Own r) es ns p)
  in_prefix : {d : ℕ} {p q : Place} (b o c s : Place) {v w : List Part} {xs es ns : List Name} {t : Part} {r : Ref}
      → IsDotted p v xs → IsRef q t r → IsTail w es ns
      → IsTerm d p (v ++ opening d OpenBracket b ∷ t ∷ mark Dot o ∷ key Class c ∷ mark CloseBracket s ∷ w) (term (head.Prefix xs r) es ns p)

-- { "\" Name }
pub data IsMasks : List Part → List Named → Type 0 where
  no_mask : IsMasks [] []
  mask : {x : Name} {o p : Place} {w : List Part} {ms : List Named} → IsMasks w ms
      → IsMasks (mark Backslash o ∷ name x p ∷ w) (named x p ∷ ms)

-- View = Term { "\" Name }
pub data IsView : ℕ → List Part → ViewTerm → Type 0 where
  view : {d : ℕ} {p : Place} {v w : List Part} {t : Term} {ms : List Named} → IsTerm d p v t → IsMasks w ms
      → IsView d (v ++ w) (record { term = t; masks = ms })

-- Term { "&" Term }, of a type, the first of them its k-th
pub data IsAtoms : ℕ → ℕ → List Part → List Term → Type 0 where
  last_atom : {d k : ℕ} {p : Place} {w : List Part} {t : Term} → IsTerm d p w t → IsAtoms d k (atom k w) (t ∷ [])
  then_atom : {d k : ℕ} {p : Place} (o : Place) {v w : List Part} {t : Term} {ts : List Term} → IsTerm d p v t → IsAtoms d (suc k) w ts
      → IsAtoms d k (atom k v ++ mark Ampersand o ∷ w) (t ∷ ts)

-- Type = "int" | "boolean" | Term { "&" Term } { "\" Name }
pub data IsType : ℕ → List Part → TypeTerm → Type 0 where
  int : {d : ℕ} {p : Place} → IsType d (key Int p ∷ []) type_term.Int
  boolean : {d : ℕ} {p : Place} → IsType d (key Boolean p ∷ []) type_term.Bool
  class : {d : ℕ} {v w : List Part} {ts : List Term} {ms : List Named} → IsAtoms d 1 v ts → IsMasks w ms
      → IsType d (v ++ w) (type_term.Class ts ms)
