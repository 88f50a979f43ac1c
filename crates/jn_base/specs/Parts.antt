-- The words of the grammar with what they count for the limits, and short names for the parts of the tree.
use Rattle.std.specs.Prelude.{ℕ, suc, List, [], ◌∷◌, Option, ℤ}
use Rattle.jn_base.specs.declared.tree.Name.{Name}
use Rattle.jn_base.specs.declared.tree.Place.{Place}
use Rattle.jn_base.specs.declared.tree.Named.{Named}
use Rattle.jn_base.specs.declared.tree.Head.{Head}
use Rattle.jn_base.specs.declared.tree.Term.{Term}
use Rattle.jn_base.specs.declared.tree.Node.{Node}
use Rattle.jn_base.specs.declared.tree.Node.TheVariants as node
use Rattle.jn_base.specs.declared.tree.Expr.{Expr, roll-Expr}
use Rattle.jn_base.specs.declared.tree.Suffix.{Suffix, roll-Suffix}
use Rattle.jn_base.specs.declared.tree.Level.{Level}
use Rattle.jn_base.specs.declared.tree.Op.{Op}
use Rattle.jn_base.specs.declared.tree.Link.{Link, roll-Link}
use Rattle.jn_base.specs.declared.word.Keyword.{Keyword}
use Rattle.jn_base.specs.declared.word.Mark.{Mark}
use Rattle.jn_base.specs.declared.word.Word.{Word}
use Rattle.jn_base.specs.declared.word.Word.TheVariants as word
use Rattle.jn_base.specs.declared.word.Lexeme.{Lexeme}

-- What a word counts for the limits, by the rule of the grammar in which it stands.
pub data Role : Type 0 where
  Plain : Role
  -- an opening mark or a prefix operator: how many are open with it, itself among them
  Opens : ℕ → Role
  -- the name of a declaration: its depth, from 1 at the top
  Declares : ℕ → Role
  -- the name of a parameter or a local: the how-manieth of its method, from 1
  Parameter : ℕ → Role
  Local : ℕ → Role
  -- the first word of a term of a type: the how-manieth of the type, from 1
  Atom : ℕ → Role

-- A word of the grammar: what it is, where it stands and what it counts.
pub record Part : Type 0 where
  pub word : Word
  pub at : Place
  pub role : Role

-- without what it counts
abbrev pub lexeme_of : Part → Lexeme
lexeme_of t = record { word = t.word; at = t.at }

abbrev pub part : Word → Place → Role → Part
part w p r = record { word = w; at = p; role = r }

abbrev pub key : Keyword → Place → Part
key k p = part (word.Keyword k) p Plain

abbrev pub mark : Mark → Place → Part
mark m p = part (word.Mark m) p Plain

abbrev pub name : Name → Place → Part
name x p = part (word.Name x) p Plain

abbrev pub number : ℤ → Place → Part
number v p = part (word.Number v) p Plain

abbrev pub text : ℕ → Place → Part
text n p = part (word.Text n) p Plain

abbrev pub end_of_file : Place → Part
end_of_file p = part word.End p Plain

-- a mark that opens, where d are open around it
abbrev pub opening : ℕ → Mark → Place → Part
opening d m p = part (word.Mark m) p (Opens (suc d))

-- a name that is declared
abbrev pub new_name : Role → Name → Place → Part
new_name r x p = part (word.Name x) p r

-- the words of the k-th term of a type
abbrev pub atom : ℕ → List Part → List Part
atom k [] = []
atom k (t ∷ w) = part t.word t.at (Atom k) ∷ w

abbrev pub named : Name → Place → Named
named x p = record { name = x; at = p }

abbrev pub term : Head → List Name → List Name → Place → Term
term h es ns p = record { head = h; exact = es; names = ns; at = p }

abbrev pub expr : Place → Node → Expr
expr p inner = roll-Expr (record { at = p; node = inner })

abbrev pub suffix : Name → Place → Option (List Expr) → Suffix
suffix x p args = roll-Suffix (record { name = named x p; args = args })

abbrev pub link : Op → Place → Expr → Link
link o p right = roll-Link (record { op = o; at = p; right = right })

-- an expression with parts behind it, or with operands: without any it is the expression itself
abbrev pub posted : Place → Expr → List Suffix → Expr
posted p e [] = e
posted p e (s ∷ ss) = expr p (node.Post e (s ∷ ss))

abbrev pub chained : Place → Level → Expr → List Link → Expr
chained p level e [] = e
chained p level e (l ∷ ls) = expr p (node.Chain level e (l ∷ ls))
