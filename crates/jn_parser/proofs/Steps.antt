-- Reading by parts: what is read first is an answer of its own.
use Rattle.std.proofs.Common.{◌≡◌, refl, List, Result, Ok, Err}
use Rattle.jn_base.specs.declared.tree.Node.TheVariants as node
use Rattle.jn_base.specs.declared.tree.Place.{Place}
use Rattle.jn_base.specs.declared.tree.Term.{Term}
use Rattle.jn_base.specs.declared.word.Mark.TheVariants.{CloseBracket, Dot}
use Rattle.jn_base.specs.declared.word.Word.TheVariants.{Mark as Marked}
use Rattle.jn_base.specs.declared.word.Lexeme.{Lexeme}
use Rattle.jn_base.specs.Parts.{expr}
use Rattle.jn_grammar.specs.declared.fault.Fault.{Fault}
use Rattle.jn_grammar.specs.Answers.{◌>>=◌, expect, name_in}
use Rattle.jn_grammar.specs.ReadExprs.{Inner, call_args_in, super_call_in}
use Rattle.jn_parser.specs.Levels.{super_method_in}

-- two steps, and what follows
one : {A B C : Type 0} (r : Result A Fault) (f : A → Result B Fault) (k : B → Result C Fault) → (r >>= λ a. f a >>= k) ≡ ((r >>= f) >>= k)
one (Err e) f k = refl
one (Ok a) f k = refl

-- three steps, and what follows
two : {A B C D : Type 0} (r : Result A Fault) (f : A → Result B Fault) (g : B → Result C Fault) (k : C → Result D Fault) →
    (r >>= λ a. f a >>= λ b. g b >>= k) ≡ ((r >>= λ a. f a >>= g) >>= k)
two (Err e) f g k = refl
two (Ok a) f g k = one (f a) g k

-- a call of `super` by the name of its method
pub super_call_steps : (b : Inner) (p : Place) (t : Term) (ts : List Lexeme) →
    super_call_in b p t ts ≡ (super_method_in ts >>= λ x. call_args_in b x.1 >>= λ es. Ok (expr p (node.Super t x.0 es.0), es.1))
unfolding super_call_in super_method_in
super_call_steps b p t ts =
    two (expect (Marked CloseBracket) ts) (λ s. expect (Marked Dot) s.1) (λ o. name_in o.1)
    (λ x. call_args_in b x.1 >>= λ es. Ok (expr p (node.Super t x.0 es.0), es.1))
