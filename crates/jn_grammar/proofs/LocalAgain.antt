-- What is in the grammar of locals is read, with its tree, whatever stands behind it.
use Rattle.std.proofs.Common.{◌≡◌, ℕ, suc, ◌+◌, Bool, true, false, ◌⊎◌, inl, inr, List, [], ◌∷◌, ◌++◌, length, Option, Some, None, Ok, Err, refl, sym, ◌∙◌, ap, subst, append_assoc, arith}
use Rattle.std.specs.Prelude.{◌&&◌}
use Rattle.std.proofs.lemmas.List.{append-nil}
use Rattle.jn_base.specs.declared.tree.Name.{Name}
use Rattle.jn_base.specs.declared.tree.Place.{Place}
use Rattle.jn_base.specs.declared.tree.Named.{Named}
use Rattle.jn_base.specs.declared.tree.Head.TheVariants as head
use Rattle.jn_base.specs.declared.tree.Term.{Term}
use Rattle.jn_base.specs.declared.tree.TypeTerm.{TypeTerm}
use Rattle.jn_base.specs.declared.tree.TypeTerm.TheVariants as type_term
use Rattle.jn_base.specs.declared.tree.Expr.{Expr}
use Rattle.jn_base.specs.declared.tree.Node.TheVariants as node
use Rattle.jn_base.specs.declared.tree.Suffix.{Suffix}
use Rattle.jn_base.specs.declared.tree.Stmt.{Stmt}
use Rattle.jn_base.specs.declared.tree.Stmt.TheVariants as stmt
use Rattle.jn_base.specs.declared.refusal.Limit.{Limit}
use Rattle.jn_base.specs.declared.word.Keyword.TheVariants.{Class, This}
use Rattle.jn_base.specs.declared.word.Mark.TheVariants.{Ampersand, Bang, CloseBracket, Dot, Equals, OpenBracket, OpenParen, Semicolon}
use Rattle.jn_base.specs.declared.word.Word.TheVariants.{Name as Named_, Keyword as Key, Mark as Marked}
use Rattle.jn_base.specs.declared.word.Lexeme.{Lexeme}
use Rattle.jn_base.specs.Words.{lexeme}
use Rattle.jn_base.specs.Parts.{Part, Role, Local, key, mark, name, opening, atom, named, expr, suffix}
use Rattle.jn_base.specs.Spelling.{limit_of}
use Rattle.jn_base.specs.GrammarTypes.{IsDotted, one_name, more_names, IsDots, no_dot, dot, loose, exact, this, variable, IsTerm, plain, own, in_prefix, IsMasks, no_mask, mask, IsAtoms, IsType, int, boolean, class}
use Rattle.jn_base.specs.GrammarExpr.{IsSuffixes, no_suffix, then_suffix, field}
use Rattle.jn_grammar.specs.declared.fault.Fault.TheVariants.{Passed}
use Rattle.jn_grammar.specs.Begins.{begins, behind, lexemes}
use Rattle.jn_grammar.specs.Answers.{Answer, ◌>>=◌, expect, within_by, row}
use Rattle.jn_grammar.specs.ReadTypes.{masks_in, bang_in, after_names_in, next_atom_in, type_in}
use Rattle.jn_grammar.specs.ReadExprs.{level, prim_by, prim_in, expr_in}
use Rattle.jn_grammar.specs.ReadStmts.{Shape, new_name_in, value_in, grow_by, grown, names_of, begins_class, local_end_in, local_in, type_rest_in, path_local_in, simple_by, simple_in, led_in, stmt_by, stmt_in}
use Rattle.jn_grammar.specs.declared.shape.Shape.TheVariants as shape
use Rattle.jn_grammar.proofs.Row.{Row, none, next}
use Rattle.jn_grammar.proofs.TermsSound.{one_atom, IsNextAtom, next_atom}
use Rattle.jn_grammar.proofs.Meets.{met, meets, meets_append, words_append, Reads, then_reads, then_ok, if_false}
use Rattle.jn_grammar.proofs.TermsAgain.{EndsTerm, row_again, read_then, bang_loose, bang_exact, prefix_again}
use Rattle.jn_grammar.proofs.TypesAgain.{EndsType, TermHead, term_head, head_of, AtomsRow, atoms_row, row_atoms, next_atom_head, next_atom_again, next_atoms_end, masks_again, masks_end, masks_no_ampersand, type_again}
use Rattle.jn_grammar.proofs.ExprAgain.{EndsExpr, suffixes_again}
use Rattle.jn_grammar.proofs.LevelsAgain.{expr_again, agains_below}
use Rattle.jn_grammar.proofs.LocalSound.{IsNewName, one_new_name, IsValue, valued}
use Rattle.jn_grammar.proofs.Shapes.{IsPath, args_of_suffix, name_of_suffix}

-- a name that is declared
pub new_name_again : (r : Role) {w : List Part} {x : Named} → IsNewName r w x → (v : List Lexeme) → Reads (new_name_in true r) w v x
unfolding new_name_in
new_name_again r (one_new_name {x} {p}) v = by_limit (limit_of r)
  where
    by_limit : (l : Option Limit) → within_by l (lexeme (Named_ x) p ∷ v) (Ok (named x p, v)) ≡ met l (suc (0 + length v)) (Ok (named x p, v))
    by_limit (Some l) = let same : suc (length v) ≡ suc (0 + length v) = omega arith in ap (λ i. Err (Passed l i)) same
    by_limit None = refl

pub semicolon_ends : (s : Place) (v : List Lexeme) → EndsExpr (lexeme (Marked Semicolon) s ∷ v)
semicolon_ends s v = record { below = record { below = record { below = record { below = record { below = record { post = record { dot = refl; open_paren = refl }; product = refl }; sum = refl }; compare = refl }; equal = refl }; and = refl }; or = refl }

pub value_again : (n : ℕ) {d : ℕ} {w : List Part} {e : Expr} → IsValue d w e → d + n ≡ 200 → (v : List Lexeme) → Reads (value_in n) w v e
unfolding value_in
value_again n (valued s {w} {e} i) room v =
    then_reads (expr_in (level n)) (λ e. expect (Marked Semicolon) e.1 >>= λ semi. Ok (e.0, semi.1)) w (mark Semicolon s ∷ []) v e (Ok (e, v))
    (expr_again n (agains_below n) i room (lexeme (Marked Semicolon) s ∷ v) (semicolon_ends s v)) refl

-- behind the type
pub local_end_again : (n : ℕ) {d : ℕ} (k : ℕ) (fixed : Bool) (ty : TypeTerm) (o : Place) {nw w : List Part} {x : Named} {e : Expr} → IsNewName (Local (suc k)) nw x → IsValue d w e → d + n ≡ 200 → (v : List Lexeme)
    → Reads (local_end_in true n k fixed ty) (nw ++ mark Equals o ∷ w) v (stmt.Local fixed ty x e, suc k)
unfolding local_end_in
local_end_again n k fixed ty o {nw} {w} {x} {e} i j room v =
    then_reads (new_name_in true (Local (suc k))) (λ x. expect (Marked Equals) x.1 >>= λ eq. value_in n eq.1 >>= λ e. Ok ((stmt.Local fixed ty x.0 e.0, suc k), e.1)) nw (mark Equals o ∷ w) v x _
    (new_name_again (Local (suc k)) i (lexemes (mark Equals o ∷ w) ++ v))
    (read_then (value_in n) (λ e. Ok ((stmt.Local fixed ty x e.0, suc k), e.1)) w v e _ (value_again n j room v) refl)

pub name_ends : {r : Role} {w : List Part} {x : Named} → IsNewName r w x → (v : List Lexeme) → EndsType (lexemes w ++ v)
name_ends one_new_name v = record { view = record { term = record { names = record { dot = refl; bang = refl }; bracket = refl }; mask = refl }; ampersand = refl }

ends_append : {r : Role} {w : List Part} {x : Named} → IsNewName r w x → (u : List Part) (v : List Lexeme) → EndsType (lexemes (w ++ u) ++ v)
ends_append {w = w} i u v = subst (λ (z : List Lexeme). EndsType z) (sym (words_append w u v)) (name_ends i (lexemes u ++ v))

-- from the type on
pub local_again : (n : ℕ) {d : ℕ} (k : ℕ) (fixed : Bool) (o : Place) {t nw w : List Part} {ty : TypeTerm} {x : Named} {e : Expr} → IsType d t ty → IsNewName (Local (suc k)) nw x → IsValue d w e → d + n ≡ 200 → (v : List Lexeme)
    → Reads (local_in true n k fixed) (t ++ (nw ++ mark Equals o ∷ w)) v (stmt.Local fixed ty x e, suc k)
unfolding local_in
local_again n k fixed o {t} {nw} {w} {ty} {x} {e} h i j room v =
    then_reads (type_in true n) (λ ty. local_end_in true n k fixed ty.0 ty.1) t (nw ++ mark Equals o ∷ w) v ty _
    (type_again h n room (lexemes (nw ++ mark Equals o ∷ w) ++ v) (ends_append i (mark Equals o ∷ w) v))
    (local_end_again n k fixed ty o i j room v)

-- ---- locals whose type begins with names

pub record EndsPath (v : List Lexeme) : Type 0 where
  pub dot : begins (Marked Dot) v ≡ false
  pub open_paren : begins (Marked OpenParen) v ≡ false
  pub equals : begins (Marked Equals) v ≡ false

-- a term that begins with names, and one with "class" behind its first word
pub record PathTerm (d : ℕ) (p : Place) (w : List Part) (t : Term) : Type 0 where
  pub x : Name
  pub dots : List Part
  pub xs : List Name
  pub others : List Part
  pub split : w ≡ (name x p ∷ dots) ++ others
  pub is : IsDots dots xs
  pub again : (n : ℕ) → d + n ≡ 200 → (v : List Lexeme) → EndsTerm v → Reads (after_names_in n p (x ∷ xs)) others v t
  pub ends : (v : List Lexeme) → EndsPath v → EndsPath (lexemes others ++ v)

pub data OwnTerm : List Part → Type 0 where
  this_term : {p o c : Place} {w : List Part} → OwnTerm (key This p ∷ mark Dot o ∷ key Class c ∷ w)
  variable_term : {x : Name} {p o c : Place} {w : List Part} → OwnTerm (name x p ∷ mark Dot o ∷ key Class c ∷ w)

data NamesThen (p : Place) : List Part → List Name → Type 0 where
  names_then : {x : Name} {u : List Part} {ys : List Name} → IsDots u ys → NamesThen p (name x p ∷ u) (x ∷ ys)

longer : {q : Place} {w : List Part} {xs : List Name} (x : Name) (p o : Place) → NamesThen q w xs → NamesThen p (name x p ∷ mark Dot o ∷ w) (x ∷ xs)
longer x p o (names_then ds) = names_then (dot ds)

of_dotted : {p : Place} {w : List Part} {xs : List Name} → IsDotted p w xs → NamesThen p w xs
of_dotted one_name = names_then no_dot
of_dotted {p} (more_names {x} o d) = longer x p o (of_dotted d)

bang_term : (n : ℕ) (p : Place) (xs : List Name) (o : Place) {w : List Part} {ys : List Name} → IsDots w ys → (v : List Lexeme) → EndsTerm v → Reads (after_names_in n p xs) (mark Bang o ∷ w) v (record { head = head.Plain; exact = xs; names = ys; at = p })
unfolding after_names_in
bang_term n p xs o {w} {ys} ds v a = read_then (bang_in xs) (λ i. Ok (record { head = head.Plain; exact = i.0.0; names = i.0.1; at = p }, i.1)) (mark Bang o ∷ w) v (xs, ys) _ (bang_exact xs o ds v a.names) refl

loose_term : (n : ℕ) (p : Place) (xs : List Name) (v : List Lexeme) → EndsTerm v → Reads (after_names_in n p xs) [] v (record { head = head.Plain; exact = []; names = xs; at = p })
unfolding after_names_in
loose_term n p xs v a = if_false (begins (Marked OpenBracket) v) _ _ a.bracket ∙ ap (λ (s : Answer (List Name × List Name)). s >>= λ i. Ok (record { head = head.Plain; exact = i.0.0; names = i.0.1; at = p }, i.1)) (bang_loose xs v a.names.bang)

term_kind : {d : ℕ} {p : Place} {w : List Part} {t : Term} → IsTerm d p w t → PathTerm d p w t ⊎ OwnTerm w
unfolding after_names_in
term_kind {d} {p} (plain (loose {w = w} {xs} i)) = inl (of_names (of_dotted i))
  where
    of_names : {w : List Part} {xs : List Name} → NamesThen p w xs → PathTerm d p w (record { head = head.Plain; exact = []; names = xs; at = p })
    of_names (names_then {x} {u} {ys} ds) = record { x = x; dots = u; xs = ys; others = []; split = sym (append-nil (name x p ∷ u)); is = ds; again = λ n room v a. loose_term n p (x ∷ ys) v a; ends = λ v a. a }
term_kind {d} {p} (plain (exact o {v = u} {w} {xs} {ys} i js)) = inl (of_names (of_dotted i))
  where
    of_names : {u : List Part} {xs : List Name} → NamesThen p u xs → PathTerm d p (u ++ mark Bang o ∷ w) (record { head = head.Plain; exact = xs; names = ys; at = p })
    of_names (names_then {x} {u} {ys = zs} ds) = record { x = x; dots = u; xs = zs; others = mark Bang o ∷ w; split = refl; is = ds; again = λ n room v a. bang_term n p (x ∷ zs) o js v a; ends = λ v a. record { dot = refl; open_paren = refl; equals = refl } }
term_kind {d} {p} (own o c this i) = inr this_term
term_kind {d} {p} (own o c variable i) = inr variable_term
term_kind {d} {p} (in_prefix {q = q} b o c s {v = u} {w} {xs} {es} {ns} {t} {r} i j k) = inl (of_names (of_dotted i))
  where
    others : List Part
    others = opening d OpenBracket b ∷ t ∷ mark Dot o ∷ key Class c ∷ mark CloseBracket s ∷ w

    of_names : {u : List Part} {xs : List Name} → NamesThen p u xs → PathTerm d p (u ++ others) (record { head = head.Prefix xs r; exact = es; names = ns; at = p })
    of_names (names_then {x} {u} {ys} ds) = record { x = x; dots = u; xs = ys; others = others; split = refl; is = ds; again = λ n room v a. prefix_again d n room p q b o c s (x ∷ ys) j k v a.names; ends = λ v a. record { dot = refl; open_paren = refl; equals = refl } }

-- parts that are names with dots
record Parts (d : ℕ) (w : List Part) (xs : List Name) : Type 0 where
  parts : List Suffix
  is : IsSuffixes d w parts
  same : names_of parts ≡ xs
  path : IsPath (grown shape.Name parts)
  path_on : IsPath (grown shape.Path parts)

parts_of : {w : List Part} {xs : List Name} → IsDots w xs → (d : ℕ) → Parts d w xs
parts_of no_dot d = record { parts = []; is = no_suffix; same = refl; path = tt; path_on = tt }
parts_of (dot {x} {o} {p = q} {w} {xs} ds) d =
    let r = parts_of ds d in
    record {
      parts = suffix x q None ∷ r.parts;
      is = then_suffix field r.is;
      same = ap (λ (m : Named). m.name ∷ names_of r.parts) (name_of_suffix x q None) ∙ ap (λ (ys : List Name). x ∷ ys) r.same;
      path = subst (λ a. IsPath (grown (grow_by a shape.Name) r.parts)) (sym (args_of_suffix x q None)) r.path_on;
      path_on = subst (λ a. IsPath (grown (grow_by a shape.Path) r.parts)) (sym (args_of_suffix x q None)) r.path_on;
    }

-- names and dots count nothing
dots_plain : {A : Type 0} {w : List Part} {xs : List Name} → IsDots w xs → (v : List Lexeme) (r : Answer A) → meets w v r ≡ r
dots_plain no_dot v r = refl
dots_plain (dot ds) v r = dots_plain ds v r

-- no "class" stands behind a dot here
no_class : (v : List Lexeme) → begins (Marked Dot) v ≡ false → begins_class v ≡ false
no_class v e = ap (λ (b : Bool). b && begins (Key Class) (behind v)) e

dots_no_class : {w : List Part} {xs : List Name} → IsDots w xs → (v : List Lexeme) → begins (Marked Dot) v ≡ false → begins_class (lexemes w ++ v) ≡ false
dots_no_class no_dot v e = no_class v e
dots_no_class (dot ds) v e = refl

path_by : (n k : ℕ) (z : Shape) → IsPath z → (first : Named) (e : Expr) (ss : List Suffix) (ts : List Lexeme) → begins (Marked Equals) ts ≡ false
    → simple_by true n z k first e ss ts ≡ path_local_in true n k first.at (first.name ∷ names_of ss) ts
unfolding simple_by
path_by n k shape.Name h first e ss ts q = if_false (begins (Marked Equals) ts) _ _ q
path_by n k shape.Path h first e ss ts q = if_false (begins (Marked Equals) ts) _ _ q
path_by n k shape.Call h first e ss ts q = absurd h
path_by n k shape.Part h first e ss ts q = absurd h
path_by n k shape.Bare h first e ss ts q = absurd h

path_simple : (n d k : ℕ) → d + n ≡ 200 → (x : Name) (p : Place) {dots : List Part} {xs : List Name} → IsDots dots xs → (z : List Lexeme) → EndsPath z
    → simple_in true n k (lexeme (Named_ x) p ∷ (lexemes dots ++ z)) ≡ path_local_in true n k p (x ∷ xs) z
unfolding simple_in prim_in prim_by
path_simple n d k room x p {dots} {xs} ds z a =
    let r = parts_of ds d in
    then_ok (λ ss. simple_by true n (grown shape.Name ss.0) k (named x p) (expr p (node.Var x)) ss.0 ss.1) (suffixes_again n (agains_below n) r.is room z (record { dot = a.dot; open_paren = a.open_paren }) ∙ dots_plain ds z (Ok (r.parts, z)))
    (path_by n k (grown shape.Name r.parts) r.path (named x p) (expr p (node.Var x)) r.parts z a.equals ∙ ap (λ (ys : List Name). path_local_in true n k p (x ∷ ys) z) r.same)

path_stmt : (n d k : ℕ) (dp : ℕ → List Lexeme → Answer (List Stmt × ℕ)) → d + n ≡ 200 → (x : Name) (p : Place) {dots : List Part} {xs : List Name} → IsDots dots xs → (z : List Lexeme) → EndsPath z
    → stmt_in true n dp k (lexeme (Named_ x) p ∷ (lexemes dots ++ z)) ≡ path_local_in true n k p (x ∷ xs) z
unfolding stmt_in stmt_by led_in
path_stmt n d k dp room x p {dots} ds z a = if_false (begins_class (lexemes dots ++ z)) _ _ (dots_no_class ds z a.dot) ∙ path_simple n d k room x p ds z a

-- the rest of a type
type_rest_again : (n d : ℕ) → d + n ≡ 200 → (t : Term) {aw mw : List Part} {ts : List Term} {ms : List Named} → Row (IsNextAtom d) 2 aw ts → IsMasks mw ms → (v : List Lexeme) → EndsType v
    → Reads (type_rest_in true n t) (aw ++ mw) v (type_term.Class (t ∷ ts) ms)
unfolding type_rest_in
type_rest_again n d room t {aw} {mw} {ts} {ms} js m v a =
    then_reads (row (begins (Marked Ampersand)) (next_atom_in true n) 2) (λ others. masks_in others.1 >>= λ ms. Ok (type_term.Class (t ∷ others.0) ms.0, ms.1)) aw mw v ts _
    (row_again (IsNextAtom d) (begins (Marked Ampersand)) (next_atom_in true n) EndsTerm (next_atom_head d) (next_atom_again d n room) js (lexemes mw ++ v) (masks_no_ampersand m v a.ampersand) (masks_end m v a.view.term))
    (read_then masks_in (λ ms. Ok (type_term.Class (t ∷ ts) ms.0, ms.1)) mw v ms _ (masks_again m v a.view.mask) refl)

-- the first word of a type counts nothing
atom_first : {A : Type 0} {w : List Part} → TermHead w → (f : List Lexeme → Answer A) (z : List Part) (v : List Lexeme) (x : A) → Reads f (w ++ z) v x → Reads f (atom 1 w ++ z) v x
atom_first (term_head {t} {w} h q) f z v x r = r ∙ ap (λ (i : Role). met (limit_of i) (suc (length (w ++ z) + length v)) (meets (w ++ z) v (Ok (x, v)))) q

rest_ends : {d k : ℕ} {aw mw : List Part} {ts : List Term} {ms : List Named} → Row (IsNextAtom d) k aw ts → IsMasks mw ms → (v : List Lexeme) → EndsTerm v → EndsTerm (lexemes (aw ++ mw) ++ v)
rest_ends {aw = aw} {mw} js m v a = subst (λ (z : List Lexeme). EndsTerm z) (sym (words_append aw mw v)) (next_atoms_end js (lexemes mw ++ v) (masks_end m v a))

next_path : {d k : ℕ} {aw mw : List Part} {ts : List Term} {ms : List Named} → Row (IsNextAtom d) k aw ts → IsMasks mw ms → (v : List Lexeme) → EndsPath v → EndsPath (lexemes (aw ++ mw) ++ v)
next_path none no_mask v a = a
next_path none (mask m) v a = record { dot = refl; open_paren = refl; equals = refl }
next_path (next (next_atom i) js) m v a = record { dot = refl; open_paren = refl; equals = refl }

name_path : {r : Role} {w : List Part} {x : Named} → IsNewName r w x → (u : List Part) (v : List Lexeme) → EndsPath (lexemes (w ++ u) ++ v)
name_path one_new_name u v = record { dot = refl; open_paren = refl; equals = refl }

-- a local behind the names of its type
path_local_again : (n d k : ℕ) → d + n ≡ 200 → (p o : Place) {w aw mw nw vw : List Part} {t : Term} {ts : List Term} {ms : List Named} {x : Named} {e : Expr}
    → (pt : PathTerm d p w t) → Row (IsNextAtom d) 2 aw ts → IsMasks mw ms → IsNewName (Local (suc k)) nw x → IsValue d vw e → (v : List Lexeme)
    → Reads (path_local_in true n k p (pt.x ∷ pt.xs)) (pt.others ++ ((aw ++ mw) ++ (nw ++ mark Equals o ∷ vw))) v (stmt.Local false (type_term.Class (t ∷ ts) ms) x e, suc k)
unfolding path_local_in
path_local_again n d k room p o {w} {aw} {mw} {nw} {vw} {t} {ts} {ms} {x} {e} pt js m i j v =
    let lw : List Part = nw ++ mark Equals o ∷ vw in
    let ends : EndsType (lexemes lw ++ v) = ends_append i (mark Equals o ∷ vw) v in
    then_reads (after_names_in n p (pt.x ∷ pt.xs)) (λ t. type_rest_in true n t.0 t.1 >>= λ ty. local_end_in true n k false ty.0 ty.1) pt.others ((aw ++ mw) ++ lw) v t _
    (pt.again n room (lexemes ((aw ++ mw) ++ lw) ++ v) (subst (λ (z : List Lexeme). EndsTerm z) (sym (words_append (aw ++ mw) lw v)) (rest_ends js m (lexemes lw ++ v) ends.view.term)))
    (then_reads (type_rest_in true n t) (λ ty. local_end_in true n k false ty.0 ty.1) (aw ++ mw) lw v (type_term.Class (t ∷ ts) ms) _
    (type_rest_again n d room t js m (lexemes lw ++ v) ends)
    (local_end_again n k false (type_term.Class (t ∷ ts) ms) o i j room v))

-- a local whose type begins with names
path_again : (n d k : ℕ) (dp : ℕ → List Lexeme → Answer (List Stmt × ℕ)) → d + n ≡ 200 → (p o : Place) {w aw mw nw vw : List Part} {t : Term} {ts : List Term} {ms : List Named} {x : Named} {e : Expr}
    → PathTerm d p w t → Row (IsNextAtom d) 2 aw ts → IsMasks mw ms → IsNewName (Local (suc k)) nw x → IsValue d vw e → (v : List Lexeme)
    → Reads (stmt_in true n dp k) (w ++ ((aw ++ mw) ++ (nw ++ mark Equals o ∷ vw))) v (stmt.Local false (type_term.Class (t ∷ ts) ms) x e, suc k)
path_again n d k dp room p o {w} {aw} {mw} {nw} {vw} {t} {ts} {ms} {x} {e} pt js m i j v =
    let lw : List Part = nw ++ mark Equals o ∷ vw in
    let y : List Part = pt.others ++ ((aw ++ mw) ++ lw) in
    let nd : List Part = name pt.x p ∷ pt.dots in
    let res : Answer (Stmt × ℕ) = Ok ((stmt.Local false (type_term.Class (t ∷ ts) ms) x e, suc k), v) in
    let whole : w ++ ((aw ++ mw) ++ lw) ≡ nd ++ y = ap (λ (z : List Part). z ++ ((aw ++ mw) ++ lw)) pt.split ∙ append_assoc nd pt.others ((aw ++ mw) ++ lw) in
    let rest : EndsPath (lexemes y ++ v) = subst (λ (z : List Lexeme). EndsPath z) (sym (words_append pt.others ((aw ++ mw) ++ lw) v))
    (pt.ends (lexemes ((aw ++ mw) ++ lw) ++ v) (subst (λ (z : List Lexeme). EndsPath z) (sym (words_append (aw ++ mw) lw v)) (next_path js m (lexemes lw ++ v) (name_path i (mark Equals o ∷ vw) v)))) in
    subst (λ (z : List Part). Reads (stmt_in true n dp k) z v (stmt.Local false (type_term.Class (t ∷ ts) ms) x e, suc k)) (sym whole)
    (ap (λ (z : List Lexeme). stmt_in true n dp k z) (words_append nd y v)
    ∙ path_stmt n d k dp room pt.x p pt.is (lexemes y ++ v) rest
    ∙ path_local_again n d k room p o pt js m i j v
    ∙ sym (dots_plain pt.is (lexemes y ++ v) (meets y v res))
    ∙ sym (meets_append nd y v res))

-- a local with no "final" in front
pub type_local_again : (n d k : ℕ) (dp : ℕ → List Lexeme → Answer (List Stmt × ℕ)) → d + n ≡ 200 → (o : Place) {t nw vw : List Part} {ty : TypeTerm} {x : Named} {e : Expr}
    → IsType d t ty → IsNewName (Local (suc k)) nw x → IsValue d vw e → (v : List Lexeme)
    → Reads (stmt_in true n dp k) (t ++ (nw ++ mark Equals o ∷ vw)) v (stmt.Local false ty x e, suc k)
unfolding stmt_in stmt_by led_in
type_local_again n d k dp room o (int {p = p}) i j v = local_again n k false o (int {p = p}) i j room v
type_local_again n d k dp room o (boolean {p = p}) i j v = local_again n k false o (boolean {p = p}) i j room v
type_local_again n d k dp room o {nw = nw} {vw} {x = x} {e} (class {v = u} {w = mw} {ts} {ms} h m) i j v = by_row (row_atoms h) h
  where
    lw : List Part
    lw = nw ++ mark Equals o ∷ vw

    own_atom : {w : List Part} (z : List Part) (ty : TypeTerm) → OwnTerm w → Reads (local_in true n k false) (atom 1 w ++ z) v (stmt.Local false ty x e, suc k) → Reads (stmt_in true n dp k) (atom 1 w ++ z) v (stmt.Local false ty x e, suc k)
    own_atom z ty this_term r = r
    own_atom z ty variable_term r = r

    by_kind : {p : Place} {w aw : List Part} {t : Term} {ts : List Term} → IsTerm d p w t → Row (IsNextAtom d) 2 aw ts → PathTerm d p w t ⊎ OwnTerm w → Reads (local_in true n k false) (((atom 1 w ++ aw) ++ mw) ++ lw) v (stmt.Local false (type_term.Class (t ∷ ts) ms) x e, suc k)
        → Reads (stmt_in true n dp k) (((atom 1 w ++ aw) ++ mw) ++ lw) v (stmt.Local false (type_term.Class (t ∷ ts) ms) x e, suc k)
    by_kind {p} {w} {aw} {t} {ts} g js (inl pt) r =
        let whole : ((atom 1 w ++ aw) ++ mw) ++ lw ≡ atom 1 w ++ ((aw ++ mw) ++ lw) = simp append_assoc in
        subst (λ (z : List Part). Reads (stmt_in true n dp k) z v (stmt.Local false (type_term.Class (t ∷ ts) ms) x e, suc k)) (sym whole)
        (atom_first (head_of g) (stmt_in true n dp k) ((aw ++ mw) ++ lw) v (stmt.Local false (type_term.Class (t ∷ ts) ms) x e, suc k) (path_again n d k dp room p o pt js m i j v))
    by_kind {p} {w} {aw} {t} {ts} g js (inr q) r =
        let whole : ((atom 1 w ++ aw) ++ mw) ++ lw ≡ atom 1 w ++ ((aw ++ mw) ++ lw) = simp append_assoc in
        subst (λ (z : List Part). Reads (stmt_in true n dp k) z v (stmt.Local false (type_term.Class (t ∷ ts) ms) x e, suc k)) (sym whole)
        (own_atom ((aw ++ mw) ++ lw) (type_term.Class (t ∷ ts) ms) q (subst (λ (z : List Part). Reads (local_in true n k false) z v (stmt.Local false (type_term.Class (t ∷ ts) ms) x e, suc k)) whole r))

    by_row : {u : List Part} {ts : List Term} → AtomsRow d 1 u ts → IsAtoms d 1 u ts → Reads (stmt_in true n dp k) ((u ++ mw) ++ lw) v (stmt.Local false (type_term.Class ts ms) x e, suc k)
    by_row (atoms_row (one_atom g) js) h = by_kind g js (term_kind g) (local_again n k false o (class h m) i j room v)
