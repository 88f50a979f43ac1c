-- What is in the grammar of declarations is read, with its tree, whatever stands behind it.
use Rattle.std.proofs.Common.{◌≡◌, ℕ, zero, suc, ◌+◌, ◌≤◌, true, false, List, [], ◌∷◌, ◌++◌, length, Some, None, Ok, refl, ◌∙◌, ap, subst, arith}
use Rattle.std.specs.Prelude.{not}
use Rattle.jn_base.specs.declared.tree.Place.{Place}
use Rattle.jn_base.specs.declared.tree.Named.{Named}
use Rattle.jn_base.specs.declared.tree.Kind.{Kind}
use Rattle.jn_base.specs.declared.tree.Kind.TheVariants as kind
use Rattle.jn_base.specs.declared.tree.TypeTerm.{TypeTerm}
use Rattle.jn_base.specs.declared.tree.Decl.{Decl}
use Rattle.jn_base.specs.declared.tree.Member.{Member}
use Rattle.jn_base.specs.declared.tree.Member.TheVariants as member
use Rattle.jn_base.specs.declared.word.Keyword.{Keyword}
use Rattle.jn_base.specs.declared.word.Keyword.TheVariants.{Adapts, Boolean, Extends, Int, Shares, This, Void}
use Rattle.jn_base.specs.declared.word.Mark.TheVariants.{CloseBrace, CloseParen, OpenBrace, OpenParen, Semicolon}
use Rattle.jn_base.specs.declared.word.Word.{Word}
use Rattle.jn_base.specs.declared.word.Word.TheVariants.{Name as Named_, Keyword as Key, Mark as Marked, End}
use Rattle.jn_base.specs.declared.word.Lexeme.{Lexeme}
use Rattle.jn_base.specs.Words.{lexeme}
use Rattle.jn_base.specs.Parts.{Part, Declares, key, mark, name, new_name, opening, named}
use Rattle.jn_base.specs.GrammarTypes.{IsType}
use Rattle.jn_base.specs.GrammarDecl.{no_result, result, IsList, no_list, list, a_class, a_package, inner, IsMember, declared, slot, method, IsMembers, no_member, then_member, IsTop, top, decl}
use Rattle.jn_grammar.specs.Begins.{lexemes, is_word}
use Rattle.jn_grammar.specs.Answers.{◌>>=◌, expect}
use Rattle.jn_grammar.specs.ReadStmts.{new_name_in, in_body}
use Rattle.jn_grammar.specs.ReadDecls.{list_in, void_in, typed_in, body_in, inner_in, top_decl_in, inner_member_in, member_by, member_in, members_in, members_of, top_by, top_in, in_file, tops_in}
use Rattle.jn_grammar.proofs.FirstWords.{never}
use Rattle.jn_grammar.proofs.Tools.{Below}
use Rattle.jn_grammar.proofs.Row.{Row, none, next}
use Rattle.jn_grammar.proofs.Meets.{Reads, then_reads}
use Rattle.jn_grammar.proofs.TermsAgain.{row_again, read_then}
use Rattle.jn_grammar.proofs.ExprAgain.{denied_again, allowed_again, deeper}
use Rattle.jn_grammar.proofs.LocalSound.{IsNewName, one_new_name}
use Rattle.jn_grammar.proofs.StmtSound.{braced}
use Rattle.jn_grammar.proofs.MethodSound.{head, around}
use Rattle.jn_grammar.proofs.DeclSound.{IsBody, body}
use Rattle.jn_grammar.proofs.LocalAgain.{new_name_again}
use Rattle.jn_grammar.proofs.MethodAgain.{Heads, heads, heads_append, is_type_word, type_heads, EndsList, list_again, method_again, slot_again, typed_method_again}

-- What holds of the members where n more may open.
pub record MembersAgain (n : ℕ) : Type 0 where
  pub members_again : {k : Kind} {d i : ℕ} {w : List Part} {ms : List Member} → IsMembers k d i w ms → d + n ≡ 200 → (c : Place) (v : List Lexeme) → Reads (members_in true n (members_of true n) k i) w (lexeme (Marked CloseBrace) c ∷ v) ms

body_again : (n : ℕ) → Below MembersAgain n → {k : Kind} {d i : ℕ} {w : List Part} {ms : List Member} → IsBody k d i w ms → d + n ≡ 200 → (v : List Lexeme) → Reads (body_in true n (members_of true n) k i) w v ms
unfolding body_in members_of
body_again zero b {k} {d} {i} (body o c {w} {ms} j) room v = denied_again d room (Marked OpenBrace) o (w ++ mark CloseBrace c ∷ []) v ms
body_again (suc n) b {k} {d} {i} (body o c {w} {ms} j) room v =
    allowed_again d n room (w ++ mark CloseBrace c ∷ []) v ms _
    (then_reads (members_in true n (members_of true n) k i) (λ ms. expect (Marked CloseBrace) ms.1 >>= λ shut. Ok (ms.0, shut.1)) w (mark CloseBrace c ∷ []) v ms (Ok (ms, v)) (b.members_again j (deeper d n room) c v) refl)

-- what stands behind the lists of a header
body_ends : {k : Kind} {d i : ℕ} {w : List Part} {ms : List Member} (word : Keyword) → IsBody k d i w ms → (v : List Lexeme) → EndsList word (lexemes w ++ v)
body_ends word (body o c j) v = record { keyword = refl; ampersand = refl }

shares_ends : {k : Kind} {d i : ℕ} {w u : List Part} {xs : List Named} {ms : List Member} → IsList Shares u xs → IsBody k d i w ms → (v : List Lexeme) → EndsList Extends (lexemes (u ++ w) ++ v)
shares_ends no_list b v = body_ends Extends b v
shares_ends (list i) b v = record { keyword = refl; ampersand = refl }

adapts_ends : {k : Kind} {d i : ℕ} {w u : List Part} {xs : List Named} {ms : List Member} → IsList Adapts u xs → IsBody k d i w ms → (v : List Lexeme) → EndsList Extends (lexemes (u ++ w) ++ v)
adapts_ends no_list b v = body_ends Extends b v
adapts_ends (list i) b v = record { keyword = refl; ampersand = refl }

inner_again : (n : ℕ) → Below MembersAgain n → (k : Kind) (d i : ℕ) → d + n ≡ 200 → {nw u v w : List Part} {x : Named} {es ss : List Named} {ms : List Member} → IsNewName (Declares i) nw x → IsList Extends u es → IsList Shares v ss → IsBody k d (suc i) w ms → (z : List Lexeme)
    → Reads (inner_in true n (members_of true n) k i) (nw ++ (u ++ (v ++ w))) z (decl k x es ss [] ms)
unfolding inner_in
inner_again n b k d i room {nw} {u} {v} {w} {x} {es} {ss} {ms} j e f m z =
    then_reads (new_name_in true (Declares i)) (λ x. list_in Extends x.1 >>= λ es. list_in Shares es.1 >>= λ ss. body_in true n (members_of true n) k (suc i) ss.1 >>= λ ms. Ok (decl k x.0 es.0 ss.0 [] ms.0, ms.1)) nw (u ++ (v ++ w)) z x _
    (new_name_again (Declares i) j (lexemes (u ++ (v ++ w)) ++ z))
    (then_reads (list_in Extends) (λ es. list_in Shares es.1 >>= λ ss. body_in true n (members_of true n) k (suc i) ss.1 >>= λ ms. Ok (decl k x es.0 ss.0 [] ms.0, ms.1)) u (v ++ w) z es _
    (list_again e (lexemes (v ++ w) ++ z) (shares_ends f m z))
    (then_reads (list_in Shares) (λ ss. body_in true n (members_of true n) k (suc i) ss.1 >>= λ ms. Ok (decl k x es ss.0 [] ms.0, ms.1)) v w z ss _
    (list_again f (lexemes w ++ z) (body_ends Shares m z))
    (read_then (body_in true n (members_of true n) k (suc i)) (λ ms. Ok (decl k x es ss [] ms.0, ms.1)) w z ms _ (body_again n b m room z) refl)))

top_decl_again : (n : ℕ) → Below MembersAgain n → (k : Kind) → n ≡ 200 → {nw u v w : List Part} {x : Named} {es ss : List Named} {ms : List Member} → IsNewName (Declares 1) nw x → IsList Extends u es → IsList Adapts v ss → IsBody k 0 2 w ms → (z : List Lexeme)
    → Reads (top_decl_in true n (members_of true n) k) (nw ++ (u ++ (v ++ w))) z (decl k x es [] ss ms)
unfolding top_decl_in
top_decl_again n b k room {nw} {u} {v} {w} {x} {es} {ss} {ms} j e f m z =
    let here : 0 + n ≡ 200 = omega (arith, room) in
    then_reads (new_name_in true (Declares 1)) (λ x. list_in Extends x.1 >>= λ es. list_in Adapts es.1 >>= λ ss. body_in true n (members_of true n) k 2 ss.1 >>= λ ms. Ok (decl k x.0 es.0 [] ss.0 ms.0, ms.1)) nw (u ++ (v ++ w)) z x _
    (new_name_again (Declares 1) j (lexemes (u ++ (v ++ w)) ++ z))
    (then_reads (list_in Extends) (λ es. list_in Adapts es.1 >>= λ ss. body_in true n (members_of true n) k 2 ss.1 >>= λ ms. Ok (decl k x es.0 [] ss.0 ms.0, ms.1)) u (v ++ w) z es _
    (list_again e (lexemes (v ++ w) ++ z) (adapts_ends f m z))
    (then_reads (list_in Adapts) (λ ss. body_in true n (members_of true n) k 2 ss.1 >>= λ ms. Ok (decl k x es [] ss.0 ms.0, ms.1)) v w z ss _
    (list_again f (lexemes w ++ z) (body_ends Adapts m z))
    (read_then (body_in true n (members_of true n) k 2) (λ ms. Ok (decl k x es [] ss ms.0, ms.1)) w z ms _ (body_again n b m here z) refl)))

-- a member that begins with a type
typed_is : (n i j : ℕ) (w : Word) → is_type_word w ≡ true → (t : Lexeme) (ts : List Lexeme) → member_by true n (members_of true n) kind.Class i w t ts ≡ typed_in true n (t ∷ ts)
unfolding member_by
typed_is n i j (Key Int) h t ts = refl
typed_is n i j (Key Boolean) h t ts = refl
typed_is n i j (Key This) h t ts = refl
typed_is n i j (Key k) h t ts = absurd (never h)
typed_is n i j (Named_ x) h t ts = refl
typed_is n i j k h t ts = absurd (never h)

as_typed : (n i j : ℕ) {w : List Part} → Heads is_type_word w → (v : List Lexeme) → member_in true n (members_of true n) kind.Class i j (lexemes w ++ v) ≡ typed_in true n (lexemes w ++ v)
unfolding member_in
as_typed n i j (heads {t} {w} h) v = typed_is n i j t.word h (record { word = t.word; at = t.at }) (lexemes w ++ v)

typed_reads : (n i j : ℕ) {d : ℕ} {w : List Part} {t : TypeTerm} → IsType d w t → (z : List Part) (v : List Lexeme) (x : Member) → Reads (typed_in true n) (w ++ z) v x → Reads (member_in true n (members_of true n) kind.Class i j) (w ++ z) v x
typed_reads n i j h z v x r = as_typed n i j (heads_append (type_heads h) z) v ∙ r

member_again : (n : ℕ) → Below MembersAgain n → (j : ℕ) {k : Kind} {d i : ℕ} {w : List Part} {x : Member} → IsMember k d i w x → d + n ≡ 200 → (z : List Lexeme) → Reads (member_in true n (members_of true n) k i j) w z x
unfolding member_in member_by inner_member_in void_in
member_again n b j {k} {d} {i} (declared (inner {x = x} {p} o c {u = u} {v} {w} {es} {ss} {ms} a_class e f m)) room z =
    read_then (inner_in true n (members_of true n) kind.Class i) (λ t. Ok (member.Inner t.0, t.1)) (new_name (Declares i) x p ∷ (u ++ (v ++ (opening d OpenBrace o ∷ (w ++ mark CloseBrace c ∷ []))))) z (decl kind.Class (named x p) es ss [] ms) _ (inner_again n b kind.Class d i room (one_new_name {x = x} {p = p}) e f (body o c m) z) refl
member_again n b j {k} {d} {i} (declared (inner {x = x} {p} o c {u = u} {v} {w} {es} {ss} {ms} a_package e f m)) room z =
    read_then (inner_in true n (members_of true n) kind.Package i) (λ t. Ok (member.Inner t.0, t.1)) (new_name (Declares i) x p ∷ (u ++ (v ++ (opening d OpenBrace o ∷ (w ++ mark CloseBrace c ∷ []))))) z (decl kind.Package (named x p) es ss [] ms) _ (inner_again n b kind.Package d i room (one_new_name {x = x} {p = p}) e f (body o c m) z) refl
member_again n b j {d = d} {i} (slot {x = x} p s {t = t} h) room z = typed_reads n i j h (name x p ∷ mark Semicolon s ∷ []) z (member.Slot (record { ty = t; name = named x p })) (slot_again n d room x p s h z)
member_again n b j {d = d} {i} (method {x = x} p o c q e {v = y} {u} {w} {ts = ps} {cs} {ss} (no_result {p = r}) h f g) room z =
    subst (λ (y : List Part). Reads (member_in true n (members_of true n) kind.Class i j) (key Void r ∷ name x p ∷ opening d OpenParen o ∷ y) z (member.Body (record { result = None; name = named x p; params = ps; sharing = cs; body = ss })))
    (around y u w (mark CloseParen c) (opening d OpenBrace q) (mark CloseBrace e)) (method_again n d room None (named x p) (head o c h) f (braced q e g) z)
member_again n b j {d = d} {i} (method {x = x} p o c q e {r = r} {v = y} {u} {w} {ts = ps} {cs} {ss} (result {t = t} k) h f g) room z =
    subst (λ (y : List Part). Reads (member_in true n (members_of true n) kind.Class i j) (r ++ (name x p ∷ opening d OpenParen o ∷ y)) z (member.Body (record { result = Some t; name = named x p; params = ps; sharing = cs; body = ss })))
    (around y u w (mark CloseParen c) (opening d OpenBrace q) (mark CloseBrace e))
    (typed_reads n i j k _ z _ (typed_method_again n d room x p k (head o c h) f (braced q e g) z))

type_no_close : (k : Word) → is_type_word k ≡ true → is_word (Marked CloseBrace) k ≡ false
type_no_close (Key k) h = refl
type_no_close (Named_ x) h = refl
type_no_close k h = absurd (never h)

type_goes : {w : List Part} → Heads is_type_word w → (v : List Lexeme) → (in_body (lexemes w ++ v) ≡ true) × (1 ≤ length w) × Unit {0}
type_goes (heads {t} h) v = (ap not (type_no_close t.word h), omega arith, tt)

pub member_goes : {k : Kind} {d i : ℕ} {w : List Part} {x : Member} → IsMember k d i w x → (v : List Lexeme) → (in_body (lexemes w ++ v) ≡ true) × (1 ≤ length w) × Unit {0}
member_goes (declared (inner o c a_class e f m)) v = (refl, omega arith, tt)
member_goes (declared (inner o c a_package e f m)) v = (refl, omega arith, tt)
member_goes (slot p s h) v = type_goes (heads_append (type_heads h) _) v
member_goes (method p o c q e no_result h f g) v = (refl, omega arith, tt)
member_goes (method p o c q e (result k) h f g) v = type_goes (heads_append (type_heads k) _) v

row_members : {k : Kind} {d i j : ℕ} {w : List Part} {ms : List Member} → IsMembers k d i w ms → Row (λ _. IsMember k d i) j w ms
row_members no_member = none
row_members (then_member i is) = next i (row_members is)

members_read : (n : ℕ) → Below MembersAgain n → {k : Kind} {d i : ℕ} {w : List Part} {ms : List Member} → IsMembers k d i w ms → d + n ≡ 200 → (c : Place) (v : List Lexeme) → Reads (members_in true n (members_of true n) k i) w (lexeme (Marked CloseBrace) c ∷ v) ms
members_read n b {k} {d} {i} is room c v = row_again (λ _. IsMember k d i) in_body (member_in true n (members_of true n) k i) (λ _. Unit {0})
    (λ j w x h v. member_goes h v) (λ j w x h v u. member_again n b j h room v) (row_members {j = 1} is) (lexeme (Marked CloseBrace) c ∷ v) refl tt

pub members_agains : (n : ℕ) → MembersAgain n
members_agains zero = record { members_again = λ is room c v. members_read zero tt is room c v }
members_agains (suc n) = record { members_again = λ is room c v. members_read (suc n) (members_agains n) is room c v }

pub members_agains_below : (n : ℕ) → Below MembersAgain n
members_agains_below zero = tt
members_agains_below (suc n) = members_agains n

top_again : (n : ℕ) → n ≡ 200 → (j : ℕ) {w : List Part} {x : Decl} → IsTop w x → (z : List Lexeme) → Reads (top_in true n j) w z x
unfolding top_in top_by
top_again n room j (top {x = x} {p} o c a_class e f m) z = top_decl_again n (members_agains_below n) kind.Class room (one_new_name {x = x} {p = p}) e f (body o c m) z
top_again n room j (top {x = x} {p} o c a_package e f m) z = top_decl_again n (members_agains_below n) kind.Package room (one_new_name {x = x} {p = p}) e f (body o c m) z

pub top_goes : {w : List Part} {x : Decl} → IsTop w x → (v : List Lexeme) → (in_file (lexemes w ++ v) ≡ true) × (1 ≤ length w) × Unit {0}
top_goes (top o c a_class e f m) v = (refl, omega arith, tt)
top_goes (top o c a_package e f m) v = (refl, omega arith, tt)

pub tops_again : (n : ℕ) → n ≡ 200 → {w : List Part} {xs : List Decl} → Row (λ _. IsTop) 1 w xs → (q : Place) → Reads (tops_in true n) w (lexeme End q ∷ []) xs
unfolding tops_in
tops_again n room is q = row_again (λ _. IsTop) in_file (top_in true n) (λ _. Unit {0}) (λ j w x h v. top_goes h v) (λ j w x h v u. top_again n room j h v) is (lexeme End q ∷ []) refl tt
