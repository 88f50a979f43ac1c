-- What is read of declarations is in the grammar.
use Rattle.std.proofs.Common.{◌≡◌, ℕ, zero, suc, Bool, true, List, [], ◌∷◌, ◌++◌, length, Ok, ◌∙◌, ap}
use Rattle.jn_base.specs.declared.tree.Place.{Place}
use Rattle.jn_base.specs.declared.tree.Named.{Named}
use Rattle.jn_base.specs.declared.tree.Kind.{Kind}
use Rattle.jn_base.specs.declared.tree.Kind.TheVariants as kind
use Rattle.jn_base.specs.declared.tree.Decl.{Decl}
use Rattle.jn_base.specs.declared.tree.Member.{Member}
use Rattle.jn_base.specs.declared.word.Keyword.{Keyword}
use Rattle.jn_base.specs.declared.word.Keyword.TheVariants.{Adapts, Class, Extends, Package, Shares, Void}
use Rattle.jn_base.specs.declared.word.Mark.TheVariants.{CloseBrace, OpenBrace}
use Rattle.jn_base.specs.declared.word.Word.{Word}
use Rattle.jn_base.specs.declared.word.Word.TheVariants.{Keyword as Key, Mark as Marked}
use Rattle.jn_base.specs.declared.word.Lexeme.{Lexeme}
use Rattle.jn_base.specs.Words.{lexeme}
use Rattle.jn_base.specs.Parts.{Part, Declares, key, mark, opening}
use Rattle.jn_base.specs.GrammarDecl.{IsList, IsKind, a_class, a_package, IsInner, inner, IsMember, declared, IsMembers, no_member, then_member, IsTop, top, decl}
use Rattle.jn_grammar.specs.Begins.{begins, behind, place, lexemes}
use Rattle.jn_grammar.specs.Answers.{◌>>=◌, here, expect}
use Rattle.jn_grammar.specs.ReadStmts.{in_body}
use Rattle.jn_grammar.specs.ReadDecls.{body_in, inner_in, top_decl_in, inner_member_in, member_by, member_in, members_in, members_of, top_by, top_in, in_file, tops_in}
use Rattle.jn_grammar.proofs.FirstWords.{begins_is}
use Rattle.jn_grammar.proofs.Tools.{Below, Sound, sound_bind, sound_if, sound_map, sound_expect, glue}
use Rattle.jn_grammar.proofs.Row.{Row, none, next, many_sound}
use Rattle.jn_grammar.proofs.LocalSound.{IsNewName, one_new_name, new_name_sound}
use Rattle.jn_grammar.proofs.MethodSound.{list_sound, void_sound, typed_sound}

-- What holds of the members where n more may open.
pub record MembersSound (s : Bool) (n : ℕ) : Type 0 where
  pub members_are : (k : Kind) (d i : ℕ) (ts : List Lexeme) → Sound (IsMembers k d i) ts (members_in s n (members_of s n) k i ts)

-- "{" {Member} "}"
pub data IsBody (k : Kind) (d i : ℕ) : List Part → List Member → Type 0 where
  body : (o c : Place) {w : List Part} {ms : List Member} → IsMembers k (suc d) i w ms → IsBody k d i (opening d OpenBrace o ∷ (w ++ mark CloseBrace c ∷ [])) ms

body_sound : (s : Bool) (n : ℕ) → Below (MembersSound s) n → (k : Kind) (d i : ℕ) (ts : List Lexeme) → Sound (IsBody k d i) ts (body_in s n (members_of s n) k i ts)
unfolding body_in members_of
body_sound s n b k d i ts = sound_if (IsBody k d i) ts (begins (Marked OpenBrace) ts) _ (here ts) (opens n b) (λ h. tt)
  where
    opens : (n : ℕ) → Below (MembersSound s) n → begins (Marked OpenBrace) ts ≡ true → Sound (IsBody k d i) ts (members_of s n k i ts >>= λ ms. expect (Marked CloseBrace) ms.1 >>= λ shut. Ok (ms.0, shut.1))
    opens zero b h = tt
    opens (suc n) b h = sound_bind (IsMembers k (suc d) i) (IsBody k d i) (behind ts) ts _ _ (b.members_are k (suc d) i (behind ts))
        (λ ms tms. sound_expect (IsBody k d i) (Marked CloseBrace) ms.1 ts _
        (λ c rest q. record {
          words = opening d OpenBrace (place ts) ∷ (tms.words ++ mark CloseBrace c ∷ []);
          split = begins_is (Marked OpenBrace) ts h ∙ ap (λ (v : List Lexeme). lexeme (Marked OpenBrace) (place ts) ∷ v) (glue (behind ts) tms.words (mark CloseBrace c ∷ []) ms.1 rest tms.split q);
          is = body (place ts) c tms.is;
        }))

-- the pieces in a row
in_row : (ts : List Lexeme) (a b c e : List Part) (ta tb tc te : List Lexeme) → ts ≡ lexemes a ++ ta → ta ≡ lexemes b ++ tb → tb ≡ lexemes c ++ tc → tc ≡ lexemes e ++ te
    → ts ≡ lexemes (a ++ (b ++ (c ++ e))) ++ te
in_row ts a b c e ta tb tc te p q r s = glue ts a (b ++ (c ++ e)) ta te p (glue ta b (c ++ e) tb te q (glue tb c e tc te r s))

inner_of : {k : Kind} {t : Part} {d i : ℕ} {nw u v w : List Part} {x : Named} {es ss : List Named} {ms : List Member} → IsKind t k → IsNewName (Declares i) nw x → IsList Extends u es → IsList Shares v ss → IsBody k d (suc i) w ms
    → IsInner d i (t ∷ (nw ++ (u ++ (v ++ w)))) (decl k x es ss [] ms)
inner_of a one_new_name e f (body o c m) = inner o c a e f m

top_of : {k : Kind} {t : Part} {nw u v w : List Part} {x : Named} {es adapted : List Named} {ms : List Member} → IsKind t k → IsNewName (Declares 1) nw x → IsList Extends u es → IsList Adapts v adapted → IsBody k 0 2 w ms
    → IsTop (t ∷ (nw ++ (u ++ (v ++ w)))) (decl k x es [] adapted ms)
top_of a one_new_name e f (body o c m) = top o c a e f m

inner_sound : (s : Bool) (n : ℕ) → Below (MembersSound s) n → (k : Kind) (word : Keyword) (p : Place) → IsKind (key word p) k → (d i : ℕ) (ts : List Lexeme)
    → Sound (IsInner d i) (lexeme (Key word) p ∷ ts) (inner_in s n (members_of s n) k i ts)
unfolding inner_in
inner_sound s n b k word p a d i ts =
    let us : List Lexeme = lexeme (Key word) p ∷ ts in
    sound_bind (IsNewName (Declares i)) (IsInner d i) ts us _ _ (new_name_sound s (Declares i) ts)
    (λ x tx. sound_bind (IsList Extends) (IsInner d i) x.1 us _ _ (list_sound Extends x.1)
    (λ es tes. sound_bind (IsList Shares) (IsInner d i) es.1 us _ _ (list_sound Shares es.1)
    (λ ss tss. sound_bind (IsBody k d (suc i)) (IsInner d i) ss.1 us _ _ (body_sound s n b k d (suc i) ss.1)
    (λ ms tms. record {
      words = key word p ∷ (tx.words ++ (tes.words ++ (tss.words ++ tms.words)));
      split = ap (λ (v : List Lexeme). lexeme (Key word) p ∷ v) (in_row ts tx.words tes.words tss.words tms.words x.1 es.1 ss.1 ms.1 tx.split tes.split tss.split tms.split);
      is = inner_of a tx.is tes.is tss.is tms.is;
    }))))

inner_member_sound : (s : Bool) (n : ℕ) → Below (MembersSound s) n → (k home : Kind) (word : Keyword) (p : Place) → IsKind (key word p) k → (d i : ℕ) (ts : List Lexeme)
    → Sound (IsMember home d i) (lexeme (Key word) p ∷ ts) (inner_member_in s n (members_of s n) k i ts)
unfolding inner_member_in
inner_member_sound s n b k home word p a d i ts = sound_bind (IsInner d i) (IsMember home d i) (lexeme (Key word) p ∷ ts) (lexeme (Key word) p ∷ ts) _ _ (inner_sound s n b k word p a d i ts)
    (λ t tt. record { words = tt.words; split = tt.split; is = declared tt.is })

pub member_sound : (s : Bool) (n : ℕ) → Below (MembersSound s) n → (k : Kind) (d i j : ℕ) (ts : List Lexeme) → Sound (IsMember k d i) ts (member_in s n (members_of s n) k i j ts)
unfolding member_in member_by
member_sound s n b k d i j [] = tt
member_sound s n b k d i j (t ∷ ts) = by_word k t.word
  where
    by_word : (k : Kind) (w : Word) → Sound (IsMember k d i) (lexeme w t.at ∷ ts) (member_by s n (members_of s n) k i w (lexeme w t.at) ts)
    by_word k (Key Class) = inner_member_sound s n b kind.Class k Class t.at a_class d i ts
    by_word k (Key Package) = inner_member_sound s n b kind.Package k Package t.at a_package d i ts
    by_word kind.Class (Key Void) = void_sound s n d i t.at ts
    by_word kind.Class (Key w) = typed_sound s n d i (lexeme (Key w) t.at ∷ ts)
    by_word kind.Class w = typed_sound s n d i (lexeme w t.at ∷ ts)
    by_word kind.Package (Key w) = tt
    by_word kind.Package w = tt

members_by : {k : Kind} {d i j : ℕ} {w : List Part} {ms : List Member} → Row (λ _. IsMember k d i) j w ms → IsMembers k d i w ms
members_by none = no_member
members_by (next i is) = then_member i (members_by is)

pub members_sound : (s : Bool) (n : ℕ) → Below (MembersSound s) n → (k : Kind) (d i : ℕ) (ts : List Lexeme) → Sound (IsMembers k d i) ts (members_in s n (members_of s n) k i ts)
members_sound s n b k d i ts = sound_map (Row (λ _. IsMember k d i) 1) (IsMembers k d i) ts _ (λ w x. members_by)
    (many_sound (λ _. IsMember k d i) in_body (member_in s n (members_of s n) k i) (λ j us h. member_sound s n b k d i j us) (length ts) 1 ts)

pub members_sounds : (s : Bool) (n : ℕ) → MembersSound s n
members_sounds s zero = record { members_are = members_sound s zero tt }
members_sounds s (suc n) = record { members_are = members_sound s (suc n) (members_sounds s n) }

pub members_sounds_below : (s : Bool) (n : ℕ) → Below (MembersSound s) n
members_sounds_below s zero = tt
members_sounds_below s (suc n) = members_sounds s n

top_decl_sound : (s : Bool) (n : ℕ) (k : Kind) (word : Keyword) (p : Place) → IsKind (key word p) k → (ts : List Lexeme) → Sound IsTop (lexeme (Key word) p ∷ ts) (top_decl_in s n (members_of s n) k ts)
unfolding top_decl_in
top_decl_sound s n k word p a ts =
    let us : List Lexeme = lexeme (Key word) p ∷ ts in
    sound_bind (IsNewName (Declares 1)) IsTop ts us _ _ (new_name_sound s (Declares 1) ts)
    (λ x tx. sound_bind (IsList Extends) IsTop x.1 us _ _ (list_sound Extends x.1)
    (λ es tes. sound_bind (IsList Adapts) IsTop es.1 us _ _ (list_sound Adapts es.1)
    (λ ss tss. sound_bind (IsBody k 0 2) IsTop ss.1 us _ _ (body_sound s n (members_sounds_below s n) k 0 2 ss.1)
    (λ ms tms. record {
      words = key word p ∷ (tx.words ++ (tes.words ++ (tss.words ++ tms.words)));
      split = ap (λ (v : List Lexeme). lexeme (Key word) p ∷ v) (in_row ts tx.words tes.words tss.words tms.words x.1 es.1 ss.1 ms.1 tx.split tes.split tss.split tms.split);
      is = top_of a tx.is tes.is tss.is tms.is;
    }))))

pub top_sound : (s : Bool) (n j : ℕ) (ts : List Lexeme) → Sound IsTop ts (top_in s n j ts)
unfolding top_in top_by
top_sound s n j [] = tt
top_sound s n j (t ∷ ts) = by_word t.word
  where
    by_word : (w : Word) → Sound IsTop (lexeme w t.at ∷ ts) (top_by s n w (lexeme w t.at) ts)
    by_word (Key Class) = top_decl_sound s n kind.Class Class t.at a_class ts
    by_word (Key Package) = top_decl_sound s n kind.Package Package t.at a_package ts
    by_word w = tt

-- declarations in a row
abbrev pub IsTops : Place → List Part → List Decl → Type 0
IsTops p = Row (λ _. IsTop) 1

pub tops_sound : (s : Bool) (n : ℕ) (ts : List Lexeme) → Sound (IsTops (place ts)) ts (tops_in s n ts)
unfolding tops_in
tops_sound s n ts = many_sound (λ _. IsTop) in_file (top_in s n) (λ j us h. top_sound s n j us) (length ts) 1 ts
