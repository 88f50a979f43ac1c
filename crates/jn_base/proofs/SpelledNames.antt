-- A program that is spelled has its names: equal ones have one number, and each name of a declaration is one of its own.
use Rattle.std.proofs.Common.{◌≡◌, ◌∙◌, ℕ, ◌<◌, List, [], ◌∷◌, ◌++◌, length, map, refl, sym, ap, subst, inl, inr, Contains, Some, None, All, suc, Option}
use Rattle.std.specs.List.{slice_get}
use Rattle.std.proofs.lemmas.Option.{slice_get_within, same_Some}
use Rattle.std.proofs.lemmas.List.Elements.{Contains-append_left, Contains-append_right, Contains-append_cases, All-contains_itself, All-weaker}
use Rattle.jn_base.specs.declared.tree.Name.{Name}
use Rattle.jn_base.specs.declared.tree.Text.{Text}
use Rattle.jn_base.specs.declared.tree.Kind.{Kind}
use Rattle.jn_base.specs.declared.tree.Decl.{Decl}
use Rattle.jn_base.specs.declared.tree.Field.{Field}
use Rattle.jn_base.specs.declared.tree.Method.{Method}
use Rattle.jn_base.specs.declared.tree.Member.{Member, out-Member}
use Rattle.jn_base.specs.declared.tree.Member.TheOpen.{Member-F}
use Rattle.jn_base.specs.declared.tree.Member.TheVariants as member
use Rattle.jn_base.specs.declared.tree.Member.TheVariants.{outs-Inner, outs-Slot, outs-Body}
use Rattle.jn_base.specs.declared.tree.Program.{Program}
use Rattle.jn_base.specs.declared.token.Token.{Token}
use Rattle.jn_base.specs.declared.token.LexFault.{LexFault}
use Rattle.jn_base.specs.declared.word.Word.{Word}
use Rattle.jn_base.specs.declared.word.Lexeme.{Lexeme}
use Rattle.jn_base.specs.Words.{IsWord, AreWords, AreWordsOf, name_number, text_of, last_word}
use Rattle.jn_base.specs.declared.tree.Place.{Place}
use Rattle.jn_base.specs.declared.word.Mark.TheVariants.{OpenBrace, CloseBrace, Semicolon}
use Rattle.jn_base.specs.Parts.{Part, Role, Declares, lexeme_of, name, named, new_name, opening, mark}
use Rattle.jn_base.specs.GrammarDecl.{IsInner, IsMember, IsMembers, IsTop, IsProgram}
use Rattle.jn_base.specs.Spelling.{SourceSpells}
use Rattle.jn_base.specs.Paths.{Path, StandsIn, StandsAt, nested, fields, methods, and_nested, and_field, and_method}
use Rattle.jn_base.specs.ProgramNames.{IsNamed}
use Rattle.jn_base.proofs.NameTests.{in_cons, in_none, first, later}

-- ---- the names among the words

-- each name among these words has a number below n
abbrev AllNamed : ℕ → List Part → Type 0
AllNamed n w = (t : Part) → Contains w t → (x : ℕ) → name_number t.word ≡ Some x → x < n

named_left : (n : ℕ) (u v : List Part) → AllNamed n (u ++ v) → AllNamed n u
named_left n u v all t c = all t (Contains-append_left u v t c)

named_right : (n : ℕ) (u v : List Part) → AllNamed n (u ++ v) → AllNamed n v
named_right n u v all t c = all t (Contains-append_right u v t c)

named_tail : (n : ℕ) (s : Part) (v : List Part) → AllNamed n (s ∷ v) → AllNamed n v
named_tail n s v all t c = all t (later s v t c)

word_within : (names texts : List Text) (k : _) (w : List ℕ) (x : Word) (n : ℕ) → IsWord names texts k w x → name_number x ≡ Some n → n < length names
word_within names texts _ w _ n (IsWord.a_name {n = m} there) e = subst (λ (i : ℕ). i < length names) (same_Some _ _ e) (slice_get_within names m _ there)
word_within names texts _ _ _ n (IsWord.a_keyword k) e = absurd (cc)
word_within names texts _ w _ n IsWord.a_number e = absurd (cc)
word_within names texts _ _ _ n (IsWord.a_text reads there) e = absurd (cc)
word_within names texts _ _ _ n (IsWord.a_mark m) e = absurd (cc)

-- ---- declarations of the grammar

-- a declaration with a name below n, whose members are those of words with such names
record DeclNamed (n : ℕ) (d : Decl) : Type 0 where
  is_named : d.name.name.0 < n
  kind : Kind
  around : ℕ
  depth : ℕ
  words : List Part
  members : IsMembers kind around depth words d.members
  all_named : AllNamed n words

-- behind the name and two lists stands the body
body_named : (n : ℕ) (x : Name) (p : Place) (r : Role) (t s e : Part) (u v w : List Part) → AllNamed n (t ∷ new_name r x p ∷ (u ++ (v ++ (s ∷ (w ++ e ∷ [])))))
    → (x.0 < n) × AllNamed n w
body_named n x p r t s e u v w all =
    let body = w ++ e ∷ [] in
    let lists = u ++ (v ++ (s ∷ body)) in (
      all (new_name r x p) (later t (new_name r x p ∷ lists) (new_name r x p) (first (new_name r x p) lists)) x.0 refl,
      named_left n w (e ∷ []) (named_tail n s body (named_right n v (s ∷ body) (named_right n u (v ++ (s ∷ body)) (named_tail n (new_name r x p) lists (named_tail n t (new_name r x p ∷ lists) all))))),
    )

inner_named : (n d l : ℕ) (w : List Part) (t : Decl) → IsInner d l w t → AllNamed n w → DeclNamed n t
inner_named n d l _ _ (IsInner.inner {k = k} {x = x} {p = p} o c {t = t} {u = u} {v = v} {w = w} a es ss ms) all =
    let both = body_named n x p (Declares l) t (opening d OpenBrace o) (mark CloseBrace c) u v w all in
    record { is_named = both.0; kind = k; around = suc d; depth = suc l; words = w; members = ms; all_named = both.1 }

top_named : (n : ℕ) (w : List Part) (t : Decl) → IsTop w t → AllNamed n w → DeclNamed n t
top_named n _ _ (IsTop.top {k = k} {x = x} {p = p} o c {t = t} {u = u} {v = v} {w = w} a es ss ms) all =
    let both = body_named n x p (Declares 1) t (opening 0 OpenBrace o) (mark CloseBrace c) u v w all in
    record { is_named = both.0; kind = k; around = 1; depth = 2; words = w; members = ms; all_named = both.1 }

-- ---- members of the grammar

as_nested : (ts : List Member) (d : Decl) (m : Member) (o : Member-F Member Decl) → out-Member m ≡ o → Contains (nested (m ∷ ts)) d → Contains (and_nested o (nested ts)) d
as_nested ts d m o e c = subst (λ (x : Member-F Member Decl). Contains (and_nested x (nested ts)) d) e c

as_field : (ts : List Member) (f : Field) (m : Member) (o : Member-F Member Decl) → out-Member m ≡ o → Contains (fields (m ∷ ts)) f → Contains (and_field o (fields ts)) f
as_field ts f m o e c = subst (λ (x : Member-F Member Decl). Contains (and_field x (fields ts)) f) e c

as_method : (ts : List Member) (f : Method) (m : Member) (o : Member-F Member Decl) → out-Member m ≡ o → Contains (methods (m ∷ ts)) f → Contains (and_method o (methods ts)) f
as_method ts f m o e c = subst (λ (x : Member-F Member Decl). Contains (and_method x (methods ts)) f) e c

nested_named : (n : ℕ) (k : Kind) (a l : ℕ) (w : List Part) (ms : List Member) → IsMembers k a l w ms → AllNamed n w → (d : Decl) → Contains (nested ms) d → DeclNamed n d
nested_named n k a l _ _ IsMembers.no_member all d c = absurd (in_none d c)
nested_named n k a l _ _ (IsMembers.then_member {v = v} {w = w} {ts = ts} (IsMember.declared {t = t} i) more) all d c =
    elim (in_cons t (nested ts) d (as_nested ts d (member.Inner t) _ (outs-Inner t) c)) [
      | inl is ↦ subst (λ (x : Decl). DeclNamed n x) is (inner_named n a l v t i (named_left n v w all))
      | inr h ↦ nested_named n k a l w ts more (named_right n v w all) d h
    ]
nested_named n k a l _ _ (IsMembers.then_member {v = v} {w = w} {ts = ts} (IsMember.slot {x = x} p s {t = ty} is_type) more) all d c =
    nested_named n _ a l w ts more (named_right n v w all) d (as_nested ts d (member.Slot (record { ty = ty; name = named x p })) _ (outs-Slot (record { ty = ty; name = named x p })) c)
nested_named n k a l _ _ (IsMembers.then_member {v = v} {w = w} {ts = ts} (IsMember.method {x = x} p o c' b e {res = res} {ts = ps} {cs = cs} {ss = ss} is_res are_params are_rels stmts) more) all d c =
    nested_named n _ a l w ts more (named_right n v w all) d (as_nested ts d (member.Body (record { result = res; name = named x p; params = ps; sharing = cs; body = ss })) _ (outs-Body (record { result = res; name = named x p; params = ps; sharing = cs; body = ss })) c)

-- a name behind these words is one of them
name_behind : (n : ℕ) (r v w : List Part) (x : Name) (p : Place) (more : List Part) → v ≡ r ++ name x p ∷ more → AllNamed n (v ++ w) → x.0 < n
name_behind n r v w x p more is all =
    named_right n r (name x p ∷ more) (subst (λ (u : List Part). AllNamed n u) is (named_left n v w all)) (name x p) (first (name x p) more) x.0 refl

field_named : (n : ℕ) (k : Kind) (a l : ℕ) (w : List Part) (ms : List Member) → IsMembers k a l w ms → AllNamed n w → (f : Field) → Contains (fields ms) f → f.name.name.0 < n
field_named n k a l _ _ IsMembers.no_member all f c = absurd (in_none f c)
field_named n k a l _ _ (IsMembers.then_member {v = v} {w = w} {ts = ts} (IsMember.declared {t = t} i) more) all f c = field_named n k a l w ts more (named_right n v w all) f (as_field ts f (member.Inner t) _ (outs-Inner t) c)
field_named n k a l _ _ (IsMembers.then_member {v = v} {w = w} {ts = ts} (IsMember.slot {x = x} p s {w = u} {t = ty} is_type) more) all f c =
    elim (in_cons (record { ty = ty; name = named x p }) (fields ts) f (as_field ts f (member.Slot (record { ty = ty; name = named x p })) _ (outs-Slot (record { ty = ty; name = named x p })) c)) [
      | inl is ↦ subst (λ (y : Field). y.name.name.0 < n) is (name_behind n u v w x p (mark Semicolon s ∷ []) refl all)
      | inr h ↦ field_named n _ a l w ts more (named_right n v w all) f h
    ]
field_named n k a l _ _ (IsMembers.then_member {v = v} {w = w} {ts = ts} (IsMember.method {x = x} p o c' b e {res = res} {ts = ps} {cs = cs} {ss = ss} is_res are_params are_rels stmts) more) all f c =
    field_named n _ a l w ts more (named_right n v w all) f (as_field ts f (member.Body (record { result = res; name = named x p; params = ps; sharing = cs; body = ss })) _ (outs-Body (record { result = res; name = named x p; params = ps; sharing = cs; body = ss })) c)

method_named : (n : ℕ) (k : Kind) (a l : ℕ) (w : List Part) (ms : List Member) → IsMembers k a l w ms → AllNamed n w → (m : Method) → Contains (methods ms) m → m.name.name.0 < n
method_named n k a l _ _ IsMembers.no_member all m c = absurd (in_none m c)
method_named n k a l _ _ (IsMembers.then_member {v = v} {w = w} {ts = ts} (IsMember.declared {t = t} i) more) all m c = method_named n k a l w ts more (named_right n v w all) m (as_method ts m (member.Inner t) _ (outs-Inner t) c)
method_named n k a l _ _ (IsMembers.then_member {v = v} {w = w} {ts = ts} (IsMember.slot {x = x} p s {t = ty} is_type) more) all m c =
    method_named n _ a l w ts more (named_right n v w all) m (as_method ts m (member.Slot (record { ty = ty; name = named x p })) _ (outs-Slot (record { ty = ty; name = named x p })) c)
method_named n k a l _ _ (IsMembers.then_member {v = v} {w = w} {ts = ts} (IsMember.method {x = x} p o c' b e {r = r} {res = res} {ts = ps} {cs = cs} {ss = ss} is_res are_params are_rels stmts) more) all m c =
    elim (in_cons (record { result = res; name = named x p; params = ps; sharing = cs; body = ss }) (methods ts) m (as_method ts m (member.Body (record { result = res; name = named x p; params = ps; sharing = cs; body = ss })) _ (outs-Body (record { result = res; name = named x p; params = ps; sharing = cs; body = ss })) c)) [
      | inl is ↦ subst (λ (y : Method). y.name.name.0 < n) is (name_behind n r v w x p _ refl all)
      | inr h ↦ method_named n _ a l w ts more (named_right n v w all) m h
    ]

-- ---- where declarations stand

tops_named : (n : ℕ) (w : List Part) (ds : List Decl) → IsProgram w ds → AllNamed n w → (d : Decl) → Contains ds d → DeclNamed n d
tops_named n _ _ IsProgram.no_top all d c = absurd (in_none d c)
tops_named n _ _ (IsProgram.then_top {v = v} {w = w} {t = t} {ts = ts} i more) all d c =
    elim (in_cons t ts d c) [
      | inl is ↦ subst (λ (x : Decl). DeclNamed n x) is (top_named n v t i (named_left n v w all))
      | inr h ↦ tops_named n w ts more (named_right n v w all) d h
    ]

standing_named : (n : ℕ) (p : Program) (w : List Part) → IsProgram w p.decls → AllNamed n w → (P : Path) (d : Decl) → StandsIn p P d → DeclNamed n d
standing_named n p w is all [] d c = tops_named n w p.decls is all d c
standing_named n p w is all (C ∷ P) d (e, stands, same, c) =
    let above = standing_named n p w is all P e stands in
    nested_named n above.kind above.around above.depth above.words e.members above.members above.all_named d c

method_at : (n : ℕ) (p : Program) (w : List Part) → IsProgram w p.decls → AllNamed n w → (R : Path) (d : Decl) → StandsAt p R d → (m : Method) → Contains (methods d.members) m → m.name.name.0 < n
method_at n p w is all [] d stands m c = absurd stands
method_at n p w is all (B ∷ P) d (inside, same) m c =
    let x = standing_named n p w is all P d inside in method_named n x.kind x.around x.depth x.words d.members x.members x.all_named m c

field_at : (n : ℕ) (p : Program) (w : List Part) → IsProgram w p.decls → AllNamed n w → (R : Path) (d : Decl) → StandsAt p R d → (f : Field) → Contains (fields d.members) f → f.name.name.0 < n
field_at n p w is all [] d stands f c = absurd stands
field_at n p w is all (B ∷ P) d (inside, same) f c =
    let x = standing_named n p w is all P d inside in field_named n x.kind x.around x.depth x.words d.members x.members x.all_named f c

path_named : (n : ℕ) (p : Program) (w : List Part) → IsProgram w p.decls → AllNamed n w → (R : Path) (d : Decl) → StandsAt p R d → (C : Name) → Contains R C → C.0 < n
path_named n p w is all [] d stands C c = absurd stands
path_named n p w is all (B ∷ []) d (inside, same) C c =
    elim (in_cons B [] C c) [
      | inl e ↦ subst (λ (x : Name). x.0 < n) (same ∙ e) (standing_named n p w is all [] d inside).is_named
      | inr h ↦ absurd (in_none C h)
    ]
path_named n p w is all (B ∷ D ∷ P) d ((e, stands, of_e, among), same) C c =
    elim (in_cons B (D ∷ P) C c) [
      | inl here ↦ subst (λ (x : Name). x.0 < n) (same ∙ here) (standing_named n p w is all (D ∷ P) d (e, stands, of_e, among)).is_named
      | inr h ↦ path_named n p w is all (D ∷ P) e (stands, of_e) C h
    ]

-- ---- the words of a source

words_within : (bytes : List ℕ) (names texts : List Text) (ts : List Token) (ws : List Lexeme) → AreWords bytes names texts ts ws → (w : Lexeme) → Contains ws w → (x : ℕ) → name_number w.word ≡ Some x → x < length names
words_within bytes names texts _ _ AreWords.no_word w c x e = absurd (in_none w c)
words_within bytes names texts (t ∷ ts) (v ∷ ws) (AreWords.then_word is more) w c x e =
    elim (in_cons v ws w c) [
      | inl same ↦ word_within names texts t.kind (text_of bytes t) w.word x (subst (λ (y : Lexeme). IsWord names texts t.kind (text_of bytes t) y.word) same is) e
      | inr h ↦ words_within bytes names texts ts ws more w h x e
    ]

no_name_last : (bytes : List ℕ) (f : Option LexFault) (x : ℕ) → name_number (last_word bytes f).word ≡ Some x → ⊥
no_name_last bytes None x e = cc
no_name_last bytes (Some f) x e = cc

part_among : (w : List Part) (t : Part) → Contains w t → Contains (map lexeme_of w) (lexeme_of t)
part_among [] t c = absurd (in_none t c)
part_among (s ∷ w) t c =
    elim (in_cons s w t c) [
      | inl same ↦ subst (λ (x : Part). Contains (map lexeme_of (s ∷ w)) (lexeme_of x)) same (first (lexeme_of s) (map lexeme_of w))
      | inr h ↦ later (lexeme_of s) (map lexeme_of w) (lexeme_of t) (part_among w t h)
    ]

part_within : (bytes : List ℕ) (names texts : List Text) (w : List Part) → AreWordsOf bytes names texts (map lexeme_of w) → AllNamed (length names) w
part_within bytes names texts w of t c x e =
    elim (Contains-append_cases of.words (last_word bytes of.fault ∷ []) (lexeme_of t) (subst (λ (ws : List Lexeme). Contains ws (lexeme_of t)) of.whole (part_among w t c))) [
      | inl h ↦ words_within bytes names texts of.tokens of.words of.are_words (lexeme_of t) h x e
      | inr h ↦ elim (in_cons (last_word bytes of.fault) [] (lexeme_of t) h) [
        | inl same ↦ absurd (no_name_last bytes of.fault x (ap (λ (y : Lexeme). name_number y.word) same ∙ e))
        | inr none ↦ absurd (in_none (lexeme_of t) none)
      ]
    ]

all_from : (P : Name → Type 0) (xs : List Name) → ((x : Name) → Contains xs x → P x) → All P xs
all_from P xs f = All-weaker (Contains xs) P f xs (All-contains_itself xs)

same_text : (a b : Text) → a.bytes ≡ b.bytes → a ≡ b
same_text a b e = ap (λ (bs : List ℕ). record { bytes = bs }) e

pub spelled_is_named : (p : Program) (bytes : List ℕ) → SourceSpells p bytes → IsNamed p
spelled_is_named p bytes s =
    let n = length p.names in
    let all = part_within bytes p.names p.texts s.parts s.are_words in record {
      distinct = λ i j a b at to same. s.are_words.names_numbered.one_number i j a at (subst (λ (t : Text). slice_get p.names j ≡ Some t) (sym (same_text a b same)) to);
      paths = λ R declared. all_from (λ x. x.0 < n) R (path_named n p s.parts s.is_program all R declared.decl declared.stands);
      methods = λ R m x at. subst (λ (y : Name). y.0 < n) at.name (method_at n p s.parts s.is_program all R at.decl at.stands x at.has);
      fields = λ R f x at. subst (λ (y : Name). y.0 < n) at.name (field_at n p s.parts s.is_program all R at.decl at.stands x at.has);
    }
