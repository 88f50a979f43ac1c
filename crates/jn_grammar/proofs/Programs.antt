-- Programs as whole inputs: what is read, and where a fault stands.
use Rattle.std.proofs.Common.{ℕ, List, [], ◌∷◌, ◌++◌, refl, sym, subst, append_assoc}
use Rattle.jn_base.specs.declared.tree.Place.{Place}
use Rattle.jn_base.specs.declared.tree.Decl.{Decl}
use Rattle.jn_base.specs.Parts.{Part, end_of_file}
use Rattle.jn_base.specs.GrammarDecl.{IsTop, IsProgram, no_top, then_top}
use Rattle.jn_grammar.specs.Begins.{nowhere}
use Rattle.jn_grammar.specs.ReadDecls.{tops_in}
use Rattle.jn_grammar.specs.Expected.{Tops, EndOfFile, Going}
use Rattle.jn_grammar.specs.ReadWhole.{IsWhole, whole, whole_in, first}
use Rattle.jn_grammar.proofs.Row.{Row, none, next}
use Rattle.jn_grammar.proofs.DeclSound.{IsTops, tops_sound}
use Rattle.jn_grammar.proofs.DeclAgain.{tops_again}
use Rattle.jn_grammar.proofs.DeclRuns.{tops_run}
use Rattle.jn_grammar.proofs.Finish.{finish, word, Follow, Tidy, TidyState}
use Rattle.jn_grammar.proofs.FirstFault.{IsReader}
use Rattle.jn_grammar.proofs.Whole.{IsInner, whole_reader}

tops_tidy : (n : ℕ) → TidyState (Going n (first Tops))
unfolding TidyState Tidy Follow finish word
tops_tidy n = (refl, tt)

pub tops : IsInner IsTops tops_in Tops
tops = record {
  sound = λ s n ts. tops_sound s n ts;
  again = λ i q. tops_again 200 refl i q;
  runs = λ s n ts. tops_run s n ts (EndOfFile ∷ []);
  tidy = tops_tidy;
}

-- a program is its declarations and the end of the file
shift : {j k : ℕ} {w : List Part} {xs : List Decl} → Row (λ _. IsTop) j w xs → Row (λ _. IsTop) k w xs
shift none = none
shift (next i is) = next i (shift is)

program_of_row : {k : ℕ} {w : List Part} {xs : List Decl} (q : Place) → Row (λ _. IsTop) k w xs → IsProgram (w ++ end_of_file q ∷ []) xs
program_of_row q none = no_top
program_of_row q (next {w = w} {v = u} {x = x} {xs} i is) = subst (λ (z : List Part). IsProgram z (x ∷ xs)) (sym (append_assoc w u (end_of_file q ∷ []))) (then_top i (program_of_row q is))

pub program_of : {w : List Part} {xs : List Decl} → IsWhole IsTops w xs → IsProgram w xs
program_of (whole q is) = program_of_row q is

longer : {v w : List Part} {t : Decl} {ts : List Decl} → IsTop v t → IsWhole IsTops w ts → IsWhole IsTops (v ++ w) (t ∷ ts)
longer {v} {t = t} {ts} i (whole q {w = u} is) = subst (λ (z : List Part). IsWhole IsTops z (t ∷ ts)) (append_assoc v u (end_of_file q ∷ [])) (whole {p = nowhere} q (next i (shift is)))

pub whole_of : {w : List Part} {xs : List Decl} → IsProgram w xs → IsWhole IsTops w xs
whole_of (no_top {p}) = whole {p = nowhere} p none
whole_of (then_top i is) = longer i (whole_of is)

-- ALL THAT THE THEOREM OF PLACES ASKS
pub program_reader : IsReader IsProgram (whole_in tops_in) (first Tops)
program_reader = let r = whole_reader IsTops tops_in Tops tops in record {
  sound = λ s n ts x e. (let i = r.sound s n ts x e in record { parts = i.parts; are_words = i.are_words; is = program_of i.is });
  again = λ parts x i. r.again parts x (whole_of i);
  does = r.does;
  goes_on = r.goes_on;
}
