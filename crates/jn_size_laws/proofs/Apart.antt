-- The methods of a source have words of their own.
use Rattle.std.proofs.Common.{◌≡◌, ℕ, suc, ◌+◌, ◌≤◌, List, [], ◌∷◌, ◌++◌, length, map, sym, ap, ◌∙◌, subst, arith}
use Rattle.std.proofs.lemmas.List.{length-append}
use Rattle.jn_reach.specs.Each.{Each, none, more}
use Rattle.jn_base.specs.declared.tree.Field.{Field}
use Rattle.jn_base.specs.declared.tree.Method.{Method}
use Rattle.jn_base.specs.declared.tree.Kind.{Kind}
use Rattle.jn_base.specs.declared.tree.Decl.{Decl}
use Rattle.jn_base.specs.declared.tree.Member.{Member, out-Member, fold-Member}
use Rattle.jn_base.specs.declared.tree.Member.TheOpen.{Member-F}
use Rattle.jn_base.specs.declared.tree.Member.TheFolds.{map-Member, fold_out-Member, fold_out-Decl}
use Rattle.jn_base.specs.declared.tree.Member.TheVariants as member
use Rattle.jn_base.specs.declared.tree.Member.TheVariants.{outs-Inner, outs-Slot, outs-Body}
use Rattle.jn_base.specs.declared.word.Mark.TheVariants.{CloseBrace, OpenBrace, Semicolon}
use Rattle.jn_base.specs.Parts.{Part, mark, name, opening}
use Rattle.jn_base.specs.Paths.{Path}
use Rattle.jn_base.specs.GrammarDecl as g
use Rattle.jn_sem.specs.Does.{Body}
use Rattle.jn_agree.specs.Rows.{InOrder, of_member, one_by_one, of_decl}
use Rattle.jn_size_laws.specs.Sizes.{total}
use Rattle.jn_size_laws.specs.Files.{member_fields, decl_fields, fields_in}
use Rattle.jn_size_laws.specs.LawsOfFiles.{HasWords, MethodsApart}

-- ---- the bodies of a declaration

one_member : Member → InOrder
one_member = fold-Member InOrder InOrder of_member (λ d P. one_by_one d.members (d.name.name ∷ P))

decl_is : (d : Decl) → of_decl d ≡ (λ P. one_by_one (map one_member d.members) (d.name.name ∷ P))
unfolding of_decl one_member
decl_is d = fold_out-Decl InOrder InOrder of_member (λ d P. one_by_one d.members (d.name.name ∷ P)) d

member_is : (m : Member) (o : Member-F Member Decl) → out-Member m ≡ o →
    one_member m ≡ of_member (map-Member Member Decl InOrder InOrder one_member of_decl o)
unfolding of_decl one_member
member_is m o e =
    fold_out-Member InOrder InOrder of_member (λ d P. one_by_one d.members (d.name.name ∷ P)) m
    ∙ ap (λ (o : Member-F Member Decl). of_member (map-Member Member Decl InOrder InOrder one_member of_decl o)) e

-- ---- and its fields

one_fields : Member → ℕ
one_fields = fold-Member ℕ ℕ member_fields decl_fields

fields_are : (d : Decl) → fields_in d ≡ total (map one_fields d.members)
unfolding fields_in one_fields
fields_are d = fold_out-Decl ℕ ℕ member_fields decl_fields d

one_is : (m : Member) (o : Member-F Member Decl) → out-Member m ≡ o →
    one_fields m ≡ member_fields (map-Member Member Decl ℕ ℕ one_fields fields_in o)
unfolding fields_in one_fields
one_is m o e =
    fold_out-Member ℕ ℕ member_fields decl_fields m
    ∙ ap (λ (o : Member-F Member Decl). member_fields (map-Member Member Decl ℕ ℕ one_fields fields_in o)) e

-- ---- bodies with words of their own, which are so many at most with those of f fields

record Apart (bs : List Body) (f n : ℕ) : Type 0 where
  pub words : List (List Part)
  pub each : Each HasWords bs words
  pub within : total (map (λ (v : List Part). length v) words) + f ≤ n

nothing : (f n : ℕ) → f ≤ n → Apart [] f n
nothing f n le = record { words = []; each = none; within = omega (arith, le) }

total_joined : (xs ys : List (List Part)) → total (map (λ (v : List Part). length v) (xs ++ ys)) ≡
    total (map (λ (v : List Part). length v) xs) + total (map (λ (v : List Part). length v) ys)
total_joined [] ys = omega arith
total_joined (x ∷ xs) ys = let e = total_joined xs ys in omega (arith, e)

each_joined : (fs bs : List Body) (xs ys : List (List Part)) → Each HasWords fs xs → Each HasWords bs ys →
    Each HasWords (fs ++ bs) (xs ++ ys)
each_joined _ bs _ ys none f = f
each_joined _ bs _ ys (more {xs = fs} {ys = xs} h e) f = more h (each_joined fs bs xs ys e f)

joined : (fs bs : List Body) (f g m n k : ℕ) → Apart fs f m → Apart bs g n → m + n ≤ k → Apart (fs ++ bs) (f + g) k
joined fs bs f g m n k a b le = record {
  words = a.words ++ b.words;
  each = each_joined fs bs a.words b.words a.each b.each;
  within = let e = total_joined a.words b.words in
      let x = a.within in
      let y = b.within in
      omega (arith, e, x, y, le);
}

wider : (bs : List Body) (f g m n : ℕ) → m ≤ n → f ≡ g → Apart bs f m → Apart bs g n
wider bs f g m n le same a = record {
  words = a.words;
  each = a.each;
  within = let x = a.within in omega (arith, x, le, same);
}

mutual
  of_inner : (d n : ℕ) (w : List Part) (t : Decl) → g.IsInner d n w t → (R : Path) →
      Apart (of_decl t R) (fields_in t) (length w)
  of_inner d n w0 t0 (g.inner {k = k} {x = x} {p = p} o c {t = t} {u = u} {v = v} {w = w}
      {es = es} {ss = ss} {ms = ms} is ls ls' h) R =
      let whole = g.decl k (record { name = x; at = p }) es ss [] ms in
      subst (λ (f : InOrder). Apart (f R) (fields_in whole) (length w0)) (sym (decl_is whole))
      (wider (one_by_one (map one_member ms) (x ∷ R)) (total (map one_fields ms)) (fields_in whole) (length w)
      (length w0)
      (let a = length-append u (v ++ (opening d OpenBrace o ∷ (w ++ mark CloseBrace c ∷ []))) in
      let b = length-append v (opening d OpenBrace o ∷ (w ++ mark CloseBrace c ∷ [])) in
      let e = length-append w (mark CloseBrace c ∷ []) in
      omega (arith, a, b, e))
      (sym (fields_are whole)) (of_members k (suc d) (suc n) w ms h (x ∷ R)))

  of_one : (k : Kind) (d n : ℕ) (w : List Part) (m : Member) → g.IsMember k d n w m → (R : Path) →
      Apart (one_member m R) (one_fields m) (length w)
  of_one k d n w m (g.declared {t = t} h) R =
      subst (λ (f : InOrder). Apart (f R) (one_fields (member.Inner t)) (length w))
      (sym (member_is (member.Inner t) _ (outs-Inner t)))
      (subst (λ (k : ℕ). Apart (of_decl t R) k (length w)) (sym (one_is (member.Inner t) _ (outs-Inner t)))
      (of_inner d n w t h R))
  of_one k d n w m (g.slot {x = x} p s {w = v} {t = t} h) R =
      let f : Field = record { ty = t; name = record { name = x; at = p } } in
      let e = one_is (member.Slot f) _ (outs-Slot f) in
      subst (λ (k : InOrder). Apart (k R) (one_fields (member.Slot f)) (length w))
      (sym (member_is (member.Slot f) _ (outs-Slot f)))
      (nothing (one_fields (member.Slot f)) (length w)
      (let l = length-append v (name x p ∷ mark Semicolon s ∷ []) in omega (arith, e, l)))
  of_one k d n w m (g.method {m = z} {x = x} p o c b e {res = res} {ts = ts}
      {cs = cs} {ss = ss} gives given shares stmts) R =
      let f : Method = record {
        result = res;
        name = record { name = x; at = p };
        params = ts;
        sharing = cs;
        body = ss;
      } in
      let none_there = one_is (member.Body f) _ (outs-Body f) in
      subst (λ (k : InOrder). Apart (k R) (one_fields (member.Body f)) (length w))
      (sym (member_is (member.Body f) _ (outs-Body f)))
      (record {
        words = w ∷ [];
        each = more (k, d, n, g.method p o c b e gives given shares stmts) none;
        within = omega (arith, none_there);
      })

  of_members : (k : Kind) (d n : ℕ) (w : List Part) (ms : List Member) → g.IsMembers k d n w ms → (R : Path) →
      Apart (one_by_one (map one_member ms) R) (total (map one_fields ms)) (length w)
  of_members k d n w ms g.no_member R = nothing 0 0 (omega arith)
  of_members k d n w0 ms0 (g.then_member {v = v} {w = w} {t = t} {ts = ts} h hs) R =
      joined (one_member t R) (one_by_one (map one_member ts) R) (one_fields t)
      (total (map one_fields ts)) (length v) (length w) (length w0)
      (of_one k d n v t h R) (of_members k d n w ts hs R)
      (let l = length-append v w in omega (arith, l))

of_top : (w : List Part) (t : Decl) → g.IsTop w t → (R : Path) → Apart (of_decl t R) (fields_in t) (length w)
of_top w0 t0 (g.top {k = k} {x = x} {p = p} o c {t = t} {u = u} {v = v} {w = w}
    {es = es} {adapted = fs} {ms = ms} is ls ls' h) R =
    let whole = g.decl k (record { name = x; at = p }) es [] fs ms in
    subst (λ (f : InOrder). Apart (f R) (fields_in whole) (length w0)) (sym (decl_is whole))
    (wider (one_by_one (map one_member ms) (x ∷ R)) (total (map one_fields ms)) (fields_in whole) (length w)
    (length w0)
    (let a = length-append u (v ++ (opening 0 OpenBrace o ∷ (w ++ mark CloseBrace c ∷ []))) in
    let b = length-append v (opening 0 OpenBrace o ∷ (w ++ mark CloseBrace c ∷ [])) in
    let e = length-append w (mark CloseBrace c ∷ []) in
    omega (arith, a, b, e))
    (sym (fields_are whole)) (of_members k 1 2 w ms h (x ∷ R)))

-- and the end of the file stands behind them
record AndEnd (bs : List Body) (f n : ℕ) : Type 0 where
  pub before : ℕ
  pub one_more : suc before ≤ n
  pub apart : Apart bs f before

of_tops : (w : List Part) (ds : List Decl) → g.IsProgram w ds →
    AndEnd (one_by_one (map of_decl ds) []) (total (map fields_in ds)) (length w)
of_tops w ds g.no_top = record { before = 0; one_more = omega arith; apart = nothing 0 0 (omega arith) }
of_tops w0 ds0 (g.then_top {v = v} {w = w} {t = t} {ts = ts} h hs) =
    let rest = of_tops w ts hs in
    record {
      before = length v + rest.before;
      one_more = let l = length-append v w in let r = rest.one_more in omega (arith, l, r);
      apart = joined (of_decl t []) (one_by_one (map of_decl ts) []) (fields_in t)
          (total (map fields_in ts)) (length v) rest.before (length v + rest.before)
          (of_top v t h []) rest.apart (omega arith);
    }

pub methods_apart : MethodsApart
methods_apart p w is =
    let t = of_tops w p.decls is in
    let a = t.apart in
    (a.words, a.each, (let l = a.within in let m = t.one_more in omega (arith, l, m)))
