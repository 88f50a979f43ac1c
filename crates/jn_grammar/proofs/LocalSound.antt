-- What is read of locals, assignments and calls is in the grammar.
use Rattle.std.proofs.Common.{◌≡◌, ℕ, suc, Bool, true, false, List, [], ◌∷◌, ◌++◌, length, Ok, Err, refl, sym, ◌∙◌, ap, subst, append_assoc}
use Rattle.jn_base.specs.declared.tree.Name.{Name}
use Rattle.jn_base.specs.declared.tree.Place.{Place}
use Rattle.jn_base.specs.declared.tree.Named.{Named}
use Rattle.jn_base.specs.declared.tree.Term.{Term}
use Rattle.jn_base.specs.declared.tree.TypeTerm.{TypeTerm}
use Rattle.jn_base.specs.declared.tree.Expr.{Expr}
use Rattle.jn_base.specs.declared.tree.Suffix.{Suffix}
use Rattle.jn_base.specs.declared.tree.Stmt.{Stmt}
use Rattle.jn_base.specs.declared.tree.Stmt.TheVariants as stmt
use Rattle.jn_base.specs.declared.word.Mark.TheVariants.{Ampersand, Dot, Equals, Semicolon}
use Rattle.jn_base.specs.declared.word.Word.TheVariants.{Name as Named_, Mark as Marked}
use Rattle.jn_base.specs.declared.word.Lexeme.{Lexeme}
use Rattle.jn_base.specs.Words.{lexeme}
use Rattle.jn_base.specs.Parts.{Part, Role, Local, mark, name, new_name, atom, named, posted}
use Rattle.jn_base.specs.GrammarTypes.{IsDotted, IsTerm, IsMasks, IsType, class}
use Rattle.jn_base.specs.GrammarExpr.{IsPrim, IsSuffix, IsSuffixes, IsPost, post, IsExpr, IsCall}
use Rattle.jn_base.specs.GrammarStmt.{IsFinal, not_final, IsStmt, local, assign, set_field, act}
use Rattle.jn_grammar.specs.Begins.{begins, behind, place, lexemes}
use Rattle.jn_grammar.specs.Answers.{Answer, ◌>>=◌, here, name_in}
use Rattle.jn_grammar.specs.ReadTypes.{next_atom_in}
use Rattle.jn_grammar.specs.ReadExprs.{level, suffix_in}
use Rattle.jn_grammar.specs.ReadStmts.{Shape, begins_name, new_name_in, value_in, grown, shape_of, named_of, names_of, but_last, begins_class, local_end_in, local_in, type_rest_in, path_local_in, assign_in, set_in, simple_by, simple_in, led_in}
use Rattle.jn_grammar.specs.declared.shape.Shape.TheVariants as shape
use Rattle.jn_grammar.proofs.FirstWords.{begins_is}
use Rattle.jn_grammar.proofs.Tools.{Took, Sound, sound_bind, sound_if, sound_expect, sound_name, glue}
use Rattle.jn_grammar.proofs.Row.{Row, many_sound}
use Rattle.jn_grammar.proofs.TermsSound.{one_atom, lexemes_atom, within_sound, IsNextAtom, next_atom_sound, atoms_of, masks_sound, after_names_sound, type_sound}
use Rattle.jn_grammar.proofs.ExprSound.{prim_sound, suffix_sound, suffixes_of}
use Rattle.jn_grammar.proofs.ChainSound.{expr_sound, sounds_below}
use Rattle.jn_grammar.proofs.Shapes.{IsPath, IsField, IsCalled, IsOne, path_start, one_only, dotted_by, last_field, OneName, name_first, no_field_first, call_by}

-- a statement with the count of locals behind it
abbrev pub StmtOf : ℕ → ℕ → List Part → Stmt × ℕ → Type 0
StmtOf d k w x = IsStmt d k w x.0 x.1

-- a name that is declared
pub data IsNewName (r : Role) : List Part → Named → Type 0 where
  one_new_name : {x : Name} {p : Place} → IsNewName r (new_name r x p ∷ []) (named x p)

pub new_name_sound : (strict : Bool) (r : Role) (ts : List Lexeme) → Sound (IsNewName r) ts (new_name_in strict r ts)
unfolding new_name_in
new_name_sound strict r ts = sound_if (IsNewName r) ts (begins_name ts) _ (here ts)
    (λ h. within_sound (IsNewName r) strict r ts ts (name_in ts) (by_answer (name_in ts) (sound_name (IsNewName r) ts ts (λ y. Ok y) (λ x p rest e. record { words = new_name r x p ∷ []; split = e; is = one_new_name }))))
    (λ h. tt)
  where
    by_answer : (a : Answer Named) → Sound (IsNewName r) ts (a >>= λ y. Ok y) → Sound (IsNewName r) ts a
    by_answer (Ok x) s = s
    by_answer (Err f) s = s

-- Expr ";"
pub data IsValue (d : ℕ) : List Part → Expr → Type 0 where
  valued : {q : Place} (s : Place) {w : List Part} {e : Expr} → IsExpr d q w e → IsValue d (w ++ mark Semicolon s ∷ []) e

pub value_sound : (n d : ℕ) (ts : List Lexeme) → Sound (IsValue d) ts (value_in n ts)
unfolding value_in
value_sound n d ts = sound_bind (IsExpr d (place ts)) (IsValue d) ts ts _ _ (expr_sound n (sounds_below n) d ts)
    (λ e te. sound_expect (IsValue d) (Marked Semicolon) e.1 ts _ (λ s rest q. record { words = te.words ++ mark Semicolon s ∷ []; split = glue _ _ _ _ _ te.split q; is = valued s te.is }))

-- ---- locals

local_is : {d k : ℕ} {u v nw vw : List Part} {fixed : Bool} {t : TypeTerm} {x : Named} {e : Expr} (o : Place) → IsFinal u fixed → IsType d v t → IsNewName (Local (suc k)) nw x → IsValue d vw e
    → IsStmt d k (u ++ (v ++ (nw ++ mark Equals o ∷ vw))) (stmt.Local fixed t x e) (suc k)
local_is o f t one_new_name (valued s i) = local o s f t i

-- behind "final" and the type
pub local_end_sound : (strict : Bool) (n d k : ℕ) (fixed : Bool) (ty : TypeTerm) (u v : List Part) → IsFinal u fixed → IsType d v ty → (ts us : List Lexeme) → us ≡ lexemes u ++ (lexemes v ++ ts)
    → Sound (StmtOf d k) us (local_end_in strict n k fixed ty ts)
unfolding local_end_in
local_end_sound strict n d k fixed ty u v f t ts us e =
    sound_bind (IsNewName (Local (suc k))) (StmtOf d k) ts us _ _ (new_name_sound strict (Local (suc k)) ts)
    (λ x tx. sound_expect (StmtOf d k) (Marked Equals) x.1 us _
    (λ o rest q. sound_bind (IsValue d) (StmtOf d k) rest us _ _ (value_sound n d rest)
    (λ i ti.
    let tail : x.1 ≡ lexemes (mark Equals o ∷ ti.words) ++ i.1 = q ∙ ap (λ (z : List Lexeme). lexeme (Marked Equals) o ∷ z) ti.split in
    let at_type : lexemes v ++ ts ≡ lexemes (v ++ (tx.words ++ mark Equals o ∷ ti.words)) ++ i.1 = glue _ v (tx.words ++ mark Equals o ∷ ti.words) ts i.1 refl (glue ts tx.words (mark Equals o ∷ ti.words) x.1 i.1 tx.split tail) in
    record {
      words = u ++ (v ++ (tx.words ++ mark Equals o ∷ ti.words));
      split = glue us u (v ++ (tx.words ++ mark Equals o ∷ ti.words)) (lexemes v ++ ts) i.1 e at_type;
      is = local_is o f t tx.is ti.is;
    })))

pub local_sound : (strict : Bool) (n d k : ℕ) (fixed : Bool) (u : List Part) → IsFinal u fixed → (ts us : List Lexeme) → us ≡ lexemes u ++ ts → Sound (StmtOf d k) us (local_in strict n k fixed ts)
unfolding local_in
local_sound strict n d k fixed u f ts us e =
    sound_bind (IsType d) (StmtOf d k) ts us _ _ (type_sound strict d n ts)
    (λ ty t. local_end_sound strict n d k fixed ty.0 u t.words f t.is ty.1 us (e ∙ ap (λ (z : List Lexeme). lexemes u ++ z) t.split))

-- the rest of a type behind its first term
pub type_rest_sound : (strict : Bool) (n d : ℕ) (p : Place) (t : Term) (v : List Part) → IsTerm d p v t → (ts us : List Lexeme) → us ≡ lexemes v ++ ts → Sound (IsType d) us (type_rest_in strict n t ts)
unfolding type_rest_in
type_rest_sound strict n d p t v i ts us e =
    sound_bind (Row (IsNextAtom d) 2) (IsType d) ts us _ _ (many_sound (IsNextAtom d) (begins (Marked Ampersand)) (next_atom_in strict n) (next_atom_sound strict d n) (length ts) 2 ts)
    (λ others to. sound_bind IsMasks (IsType d) others.1 us _ _ (masks_sound others.1)
    (λ ms tms. record {
      words = (atom 1 v ++ to.words) ++ tms.words;
      split = glue us (atom 1 v ++ to.words) tms.words others.1 ms.1 (glue us (atom 1 v) to.words ts others.1 (e ∙ ap (λ (z : List Lexeme). z ++ ts) (sym (lexemes_atom 1 v))) to.split) tms.split;
      is = class (atoms_of (one_atom i) to.is) tms.is;
    }))

pub path_local_sound : (strict : Bool) (n d k : ℕ) (p : Place) (xs : List Name) (v : List Part) → IsDotted p v xs → (ts us : List Lexeme) → us ≡ lexemes v ++ ts
    → Sound (StmtOf d k) us (path_local_in strict n k p xs ts)
unfolding path_local_in
path_local_sound strict n d k p xs v i ts us e =
    sound_bind (IsTerm d p) (StmtOf d k) us us _ _ (after_names_sound d n p xs v i ts us e)
    (λ t tt. sound_bind (IsType d) (StmtOf d k) us us _ _ (type_rest_sound strict n d p t.0 tt.words tt.is t.1 us tt.split)
    (λ ty ttt. local_end_sound strict n d k false ty.0 [] ttt.words not_final ttt.is ty.1 us ttt.split))

-- ---- behind a Prim and its parts

pub record Start (d : ℕ) (whole : List Lexeme) (e : Expr) (ss : List Suffix) (ts : List Lexeme) : Type 0 where
  pub first : List Part
  pub parts : List Part
  pub split : whole ≡ lexemes first ++ (lexemes parts ++ ts)
  pub prim : IsPrim d (place whole) first e
  pub suffixes : IsSuffixes d parts ss

at_place : (ts : List Lexeme) → (named_of ts).at ≡ place ts
at_place [] = refl
at_place (t ∷ ts) = refl

name_start : {d : ℕ} {whole : List Lexeme} {e : Expr} {ss : List Suffix} {ts : List Lexeme} (st : Start d whole e ss ts) → IsPath (grown (shape_of whole) ss) → OneName st.first (place whole) whole
name_start {whole = whole} {ss = ss} {ts} st h =
    let q : IsPath (shape_of (lexemes st.first ++ (lexemes st.parts ++ ts))) = subst (λ v. IsPath (shape_of v)) st.split (path_start ss (shape_of whole) h) in
    subst (λ v. OneName st.first (place whole) v) (sym st.split) (name_first st.prim (lexemes st.parts ++ ts) q)

set_is : {d k : ℕ} {v w : List Part} {t e : Expr} {p : Place} (b : Place) (x : Name) (m o : Place) → IsPost d p v t → IsValue d w e
    → IsStmt d k (v ++ (mark Dot b ∷ name x m ∷ mark Equals o ∷ w)) (stmt.Set t (named x m) e) k
set_is b x m o t (valued s i) = set_field b m o s t i

assign_is : {d k : ℕ} {w : List Part} {e : Expr} (x : Name) (p o : Place) → IsValue d w e → IsStmt d k (name x p ∷ mark Equals o ∷ w) (stmt.Assign (named x p) e) k
assign_is x p o (valued s i) = assign s i

assign_sound : (strict : Bool) (n d k : ℕ) (whole : List Lexeme) (e : Expr) (ss : List Suffix) (ts : List Lexeme) → begins (Marked Equals) ts ≡ true → Start d whole e ss ts → IsOne (grown (shape_of whole) ss) → IsPath (grown (shape_of whole) ss)
    → Sound (StmtOf d k) whole (assign_in strict n k (named_of whole) (behind ts))
unfolding assign_in
assign_sound strict n d k whole e ss ts h st only path =
    let one = name_start st path in
    let p : Place = place whole in
    let o : Place = place ts in
    sound_bind (IsValue d) (StmtOf d k) (behind ts) whole _ _ (value_sound n d (behind ts))
    (λ i ti. record {
      words = name one.x p ∷ mark Equals o ∷ ti.words;
      split = st.split ∙ ap (λ (v : List Part). lexemes v ++ (lexemes st.parts ++ ts)) one.split ∙ ap (λ (v : List Part). lexeme (Named_ one.x) p ∷ (lexemes v ++ ts)) (one_only st.suffixes (shape_of whole) only)
          ∙ ap (λ (v : List Lexeme). lexeme (Named_ one.x) p ∷ v) (begins_is (Marked Equals) ts h) ∙ ap (λ (v : List Lexeme). lexeme (Named_ one.x) p ∷ lexeme (Marked Equals) o ∷ v) ti.split;
      is = subst (λ (m : Named). IsStmt d k (name one.x p ∷ mark Equals o ∷ ti.words) (stmt.Assign m i.0) k) (sym one.so) (assign_is one.x p o ti.is);
    })

set_sound : (strict : Bool) (n d k : ℕ) (whole : List Lexeme) (e : Expr) (s : Suffix) (ss : List Suffix) (ts : List Lexeme) → begins (Marked Equals) ts ≡ true → Start d whole e (s ∷ ss) ts → IsField (grown (shape_of whole) (s ∷ ss))
    → Sound (StmtOf d k) whole (set_in strict n k (place whole) e (s ∷ ss) (behind ts))
unfolding set_in
set_sound strict n d k whole e s ss ts h st is_field =
    let l = last_field st.suffixes (shape_of whole) is_field in
    let p : Place = place whole in
    let o : Place = place ts in
    let target : IsPost d p (st.first ++ l.words) (posted p e (but_last (s ∷ ss))) = post st.prim l.is in
    sound_bind (IsValue d) (StmtOf d k) (behind ts) whole _ _ (value_sound n d (behind ts))
    (λ i ti.
    let tail : List Part = mark Dot l.dot_at ∷ name l.last l.last_at ∷ mark Equals o ∷ ti.words in
    let at_equals : ts ≡ lexemes (mark Equals o ∷ ti.words) ++ i.1 = begins_is (Marked Equals) ts h ∙ ap (λ (v : List Lexeme). lexeme (Marked Equals) o ∷ v) ti.split in
    let at_parts : lexemes st.parts ++ ts ≡ lexemes (l.words ++ tail) ++ i.1 =
    glue (lexemes st.parts ++ ts) (l.words ++ mark Dot l.dot_at ∷ name l.last l.last_at ∷ []) (mark Equals o ∷ ti.words) ts i.1 (ap (λ (v : List Part). lexemes v ++ ts) l.split) at_equals
    ∙ ap (λ (v : List Part). lexemes v ++ i.1) (append_assoc l.words (mark Dot l.dot_at ∷ name l.last l.last_at ∷ []) (mark Equals o ∷ ti.words)) in
    record {
      words = (st.first ++ l.words) ++ tail;
      split = glue whole st.first (l.words ++ tail) (lexemes st.parts ++ ts) i.1 st.split at_parts ∙ ap (λ (v : List Part). lexemes v ++ i.1) (sym (append_assoc st.first l.words tail));
      is = subst (λ (m : Named). IsStmt d k ((st.first ++ l.words) ++ tail) (stmt.Set (posted p e (but_last (s ∷ ss))) m i.0) k) (sym l.named_so) (set_is l.dot_at l.last l.last_at o target ti.is);
    })

act_sound : (d k : ℕ) (whole : List Lexeme) (e : Expr) (ss : List Suffix) (ts : List Lexeme) → begins (Marked Semicolon) ts ≡ true → Start d whole e ss ts → IsCalled (grown (shape_of whole) ss)
    → Took (StmtOf d k) whole ((stmt.Do (posted (place whole) e ss), k), behind ts)
act_sound d k whole e ss ts h st is_call =
    let r : Place = place ts in
    let c : IsCall d (st.first ++ st.parts) (posted (place whole) e ss) = call_by st.prim st.suffixes (lexemes st.parts ++ ts) (subst (λ (v : List Lexeme). IsCalled (grown (shape_of v) ss)) st.split is_call) in
    record {
      words = (st.first ++ st.parts) ++ mark Semicolon r ∷ [];
      split = glue whole (st.first ++ st.parts) (mark Semicolon r ∷ []) ts (behind ts) (glue whole st.first st.parts (lexemes st.parts ++ ts) ts st.split refl) (begins_is (Marked Semicolon) ts h);
      is = act r c;
    }

path_sound : (strict : Bool) (n d k : ℕ) (whole : List Lexeme) (e : Expr) (ss : List Suffix) (ts : List Lexeme) → Start d whole e ss ts → IsPath (grown (shape_of whole) ss)
    → Sound (StmtOf d k) whole (path_local_in strict n k (place whole) ((named_of whole).name ∷ names_of ss) ts)
path_sound strict n d k whole e ss ts st path =
    let one = name_start st path in
    subst (λ (m : Named). Sound (StmtOf d k) whole (path_local_in strict n k (place whole) (m.name ∷ names_of ss) ts)) (sym one.so)
    (path_local_sound strict n d k (place whole) (one.x ∷ names_of ss) (name one.x (place whole) ∷ st.parts) (dotted_by one.x (place whole) st.suffixes (shape_of whole) path) ts whole
    (st.split ∙ ap (λ (v : List Part). lexemes v ++ (lexemes st.parts ++ ts)) one.split))

no_field_start : {d : ℕ} {whole : List Lexeme} {e : Expr} {ts : List Lexeme} (st : Start d whole e [] ts) → IsField (shape_of whole) → ⊥
no_field_start {ts = ts} st h = no_field_first st.prim (lexemes st.parts ++ ts) (subst (λ (v : List Lexeme). IsField (shape_of v)) st.split h)

-- the same place, whether of the words or of the first name
simple_at : (strict : Bool) (n d k : ℕ) (whole : List Lexeme) (e : Expr) (ss : List Suffix) (ts : List Lexeme) → Start d whole e ss ts → (z : Shape) → z ≡ grown (shape_of whole) ss
    → Sound (StmtOf d k) whole (simple_by strict n z k (record { name = (named_of whole).name; at = place whole }) e ss ts)
unfolding simple_by
simple_at strict n d k whole e ss ts st shape.Name q = sound_if (StmtOf d k) whole (begins (Marked Equals) ts) _ _
    (λ h. subst (λ (m : Named). Sound (StmtOf d k) whole (assign_in strict n k m (behind ts))) (ap (λ (p : Place). record { name = (named_of whole).name; at = p }) (at_place whole)) (assign_sound strict n d k whole e ss ts h st (subst IsOne q tt) (subst IsPath q tt)))
    (λ h. path_sound strict n d k whole e ss ts st (subst IsPath q tt))
simple_at strict n d k whole e [] ts st shape.Path q = absurd (no_field_start st (subst IsField q tt))
simple_at strict n d k whole e (s ∷ ss) ts st shape.Path q = sound_if (StmtOf d k) whole (begins (Marked Equals) ts) _ _
    (λ h. set_sound strict n d k whole e s ss ts h st (subst IsField q tt))
    (λ h. path_sound strict n d k whole e (s ∷ ss) ts st (subst IsPath q tt))
simple_at strict n d k whole e ss ts st shape.Call q = sound_if (StmtOf d k) whole (begins (Marked Semicolon) ts) _ (here ts)
    (λ h. act_sound d k whole e ss ts h st (subst IsCalled q tt))
    (λ h. tt)
simple_at strict n d k whole e [] ts st shape.Part q = absurd (no_field_start st (subst IsField q tt))
simple_at strict n d k whole e (s ∷ ss) ts st shape.Part q = sound_if (StmtOf d k) whole (begins (Marked Equals) ts) _ (here ts)
    (λ h. set_sound strict n d k whole e s ss ts h st (subst IsField q tt))
    (λ h. tt)
simple_at strict n d k whole e ss ts st shape.Bare q = tt

pub simple_sound : (strict : Bool) (n d k : ℕ) (ts : List Lexeme) → Sound (StmtOf d k) ts (simple_in strict n k ts)
unfolding simple_in
simple_sound strict n d k ts =
    sound_bind (IsPrim d (place ts)) (StmtOf d k) ts ts _ _ (prim_sound n (sounds_below n) d ts)
    (λ e te. sound_bind (Row (λ _. IsSuffix d) 1) (StmtOf d k) e.1 ts _ _ (many_sound (λ _. IsSuffix d) (begins (Marked Dot)) (suffix_in (level n)) (suffix_sound n (sounds_below n) d) (length e.1) 1 e.1)
    (λ ss tss. subst (λ (p : Place). Sound (StmtOf d k) ts (simple_by strict n (grown (shape_of ts) ss.0) k (record { name = (named_of ts).name; at = p }) e.0 ss.0 ss.1)) (sym (at_place ts))
    (simple_at strict n d k ts e.0 ss.0 ss.1 (record { first = te.words; parts = tss.words; split = te.split ∙ ap (λ (v : List Lexeme). lexemes te.words ++ v) tss.split; prim = te.is; suffixes = suffixes_of tss.is }) (grown (shape_of ts) ss.0) refl)))

pub led_sound : (strict : Bool) (n d k : ℕ) (ts : List Lexeme) → Sound (StmtOf d k) ts (led_in strict n k ts)
unfolding led_in
led_sound strict n d k ts = sound_if (StmtOf d k) ts (begins_class (behind ts)) (local_in strict n k false ts) (simple_in strict n k ts)
    (λ h. local_sound strict n d k false [] not_final ts ts refl)
    (λ h. simple_sound strict n d k ts)
