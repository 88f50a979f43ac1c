-- Expressions, types and views as whole inputs.
use Rattle.std.proofs.Common.{ℕ, [], ◌∷◌, refl}
use Rattle.jn_base.specs.declared.tree.Place.{Place}
use Rattle.jn_base.specs.declared.tree.Level.TheVariants.{Or}
use Rattle.jn_base.specs.declared.word.Word.TheVariants.{End}
use Rattle.jn_base.specs.Words.{lexeme}
use Rattle.jn_base.specs.GrammarExpr.{IsExpr}
use Rattle.jn_grammar.specs.ReadTypes.{type_in}
use Rattle.jn_grammar.specs.Expected.{Expr, Type_, View, EndOfFile, Going}
use Rattle.jn_grammar.specs.ReadWhole.{first, inner_expr, IsTypeAt, IsViewAt, inner_view}
use Rattle.jn_grammar.proofs.ChainSound.{expr_sound, sounds_below}
use Rattle.jn_grammar.proofs.TermsSound.{type_sound, view_sound}
use Rattle.jn_grammar.proofs.ExprAgain.{EndsExpr}
use Rattle.jn_grammar.proofs.TypesAgain.{EndsType, EndsView, type_again, view_again}
use Rattle.jn_grammar.proofs.LevelsAgain.{expr_again, agains_below}
use Rattle.jn_grammar.proofs.TermsRuns.{type_runs, view_runs}
use Rattle.jn_grammar.proofs.LevelsRuns.{expr_runs, runs_below}
use Rattle.jn_grammar.proofs.Finish.{finish, word, Follow, Tidy, TidyState}
use Rattle.jn_grammar.proofs.Whole.{IsInner}

expr_ends : (q : Place) → EndsExpr (lexeme End q ∷ [])
expr_ends q = record { below = record { below = record { below = record { below = record { below = record { post = record { dot = refl; open_paren = refl }; product = refl }; sum = refl }; compare = refl }; equal = refl }; and = refl }; or = refl }

view_ends : (q : Place) → EndsView (lexeme End q ∷ [])
view_ends q = record { term = record { names = record { dot = refl; bang = refl }; bracket = refl }; mask = refl }

type_ends : (q : Place) → EndsType (lexeme End q ∷ [])
type_ends q = record { view = view_ends q; ampersand = refl }

expr_tidy : (n : ℕ) → TidyState (Going n (first (Expr Or)))
unfolding TidyState Tidy Follow finish word
expr_tidy n = (expr_ends _, tt)

type_tidy : (n : ℕ) → TidyState (Going n (first Type_))
unfolding TidyState Tidy Follow finish word
type_tidy n = (type_ends _, tt)

view_tidy : (n : ℕ) → TidyState (Going n (first View))
unfolding TidyState Tidy Follow finish word
view_tidy n = (view_ends _, tt)

pub exprs : IsInner (IsExpr 0) inner_expr (Expr Or)
exprs = record {
  sound = λ s n ts. expr_sound n (sounds_below n) 0 ts;
  again = λ i q. expr_again 200 (agains_below 200) i refl (lexeme End q ∷ []) (expr_ends q);
  runs = λ s n ts. expr_runs s n (runs_below s n) ts (EndOfFile ∷ []);
  tidy = expr_tidy;
}

pub types : IsInner IsTypeAt type_in Type_
types = record {
  sound = λ s n ts. type_sound s 0 n ts;
  again = λ i q. type_again i 200 refl (lexeme End q ∷ []) (type_ends q);
  runs = λ s n ts. type_runs s n ts (EndOfFile ∷ []);
  tidy = type_tidy;
}

pub views : IsInner IsViewAt inner_view View
views = record {
  sound = λ s n ts. view_sound 0 n ts;
  again = λ i q. view_again i 200 refl (lexeme End q ∷ []) (view_ends q);
  runs = λ s n ts. view_runs s n ts (EndOfFile ∷ []);
  tidy = view_tidy;
}
