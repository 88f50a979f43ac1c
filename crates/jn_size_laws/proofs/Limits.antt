-- A file of an image is within what its source allows.
use Rattle.std.proofs.Common.{◌≡◌, ℕ, zero, suc, ◌+◌, ◌*◌, ◌≤◌, List, [], ◌∷◌, ◌++◌, length, map, Some, false, refl, sym, ap, subst, arith}
use Rattle.std.specs.Prelude.{slice_get}
use Rattle.std.specs.List.{flat_map}
use Rattle.std.proofs.lemmas.List.{length-append}
use Rattle.std.proofs.lemmas.Option.{slice_get_within}
use Rattle.jn_reach.specs.Each.{Each, none, more}
use Rattle.jn_base.specs.declared.tree.Program.{Program}
use Rattle.jn_base.specs.declared.tree.Member.TheVariants as member
use Rattle.jn_base.specs.Parts.{Part}
use Rattle.jn_base.specs.Paths.{Path}
use Rattle.jn_code.specs.declared.instr.Instr.TheVariants as ins
use Rattle.jn_base.specs.declared.tree.Text.{Text}
use Rattle.jn_code.specs.declared.image.Text as image
use Rattle.jn_code.specs.declared.image.ClassRow.{ClassRow}
use Rattle.jn_code.specs.declared.image.Code.{Code}
use Rattle.jn_code.specs.SpellsFile as file
use Rattle.jn_sem.specs.Does.{Body}
use Rattle.jn_agree.specs.Naming.{Naming}
use Rattle.jn_agree.specs.Rows.{RowIs}
use Rattle.jn_agree.specs.Places.{StartAt, dropping}
use Rattle.jn_size_laws.specs.Sizes.{total}
use Rattle.jn_size_laws.specs.Files.{text_bytes, head_bytes}
use Rattle.jn_size_laws.specs.LawsOfFiles.{HasWords, FilesFit, FilesWithin}
use Rattle.jn_size_laws.specs.LawsOfSizes.{Sized}
use Rattle.jn_size_laws.proofs.Fits.{run_long, ctor_long, dropped_long}
use Rattle.jn_size_laws.proofs.Bytes.{code_long, codes_short, head_short}
use Rattle.jn_size_laws.proofs.Files.{file_long}
use Rattle.jn_size_laws.proofs.Sources.{takes, counted}
use Rattle.jn_size_laws.proofs.Apart.{methods_apart}

abbrev lengths : List (List Part) → ℕ
lengths ws = total (map (λ (v : List Part). length v) ws)

-- the start's code has at most six instructions
start_long : (p : Program) (n : Naming) (c : Code) → StartAt p n c → length (file.code.spelled c) ≤ 64
start_long p n c h =
    let bytes = code_long c in
    let ps = ap (λ (ks : List ℕ). length ks) h.params in
    let ls = ap (λ (ks : List ℕ). length ks) h.locals in
    let d = dropping false h.shape.result in
    let k = ctor_long n _ 0 h.constructor h.is_constructor in
    let dl = dropped_long false h.shape.result in
    let a = length-append h.constructor (ins.Call h.selector ∷ (d ++ ins.Ret ∷ [])) in
    let b = length-append d (ins.Ret ∷ []) in
    let r = run_long c.instrs (ins.Cls h.number ∷ ins.New ∷ (h.constructor ++ ins.Call h.selector ∷
    (d ++ ins.Ret ∷ []))) 0 (length c.instrs) h.instrs in
    omega (arith, bytes, ps, ls, k, dl, a, b, r)

-- the codes of the bodies, each for its method's words, and the start's behind them
codes_long : (p : Program) (n : Naming) (bs : List Body) (ws : List (List Part)) → Each HasWords bs ws
    → (cs : List Code) → length cs ≡ suc (length bs)
    → ((j : ℕ) (b : Body) (c : Code) → slice_get bs j ≡ Some b → slice_get cs j ≡ Some c → Sized b c)
    → ((c : Code) → slice_get cs (length bs) ≡ Some c → StartAt p n c)
    → length (flat_map file.code.spelled cs) ≤ 64 * lengths ws + 64
codes_long p n _ _ none [] many codes start = absurd (omega (arith, many))
codes_long p n _ _ none (c ∷ []) many codes start =
    let s = start_long p n c (start c refl) in
    let l = length-append (file.code.spelled c) [] in
    omega (arith, s, l)
codes_long p n _ _ none (c ∷ (d ∷ cs)) many codes start = absurd (omega (arith, many))
codes_long p n _ _ (more h e) [] many codes start = absurd (omega (arith, many))
codes_long p n _ _ (more {x = b} {y = w} {xs = bs} {ys = ws} h e) (c ∷ cs) many codes start =
    let is = codes 0 b c refl refl in
    let one = codes_short b c h.0 h.1 h.2 w (member.Body b.method) is refl h.3 in
    let rest = codes_long p n bs ws e cs (omega (arith, many)) (λ j b c at there. codes (suc j) b c at there) start in
    let l = length-append (file.code.spelled c) (flat_map file.code.spelled cs) in
    omega (arith, one, rest, l)

-- where there is a path, there is a class
some_class : (p : Program) (n : Naming) (Ps : List Path) (rs : List ClassRow) → Each (RowIs p n) Ps rs →
    length Ps ≡ length rs
some_class p n _ _ none = refl
some_class p n _ _ (more {xs = Ps} {ys = rs} h e) = ap suc (some_class p n Ps rs e)

-- a selector for each body takes no more than the bodies' words
heads_long : (bs : List Body) (ws : List (List Part)) → Each HasWords bs ws → total (map head_bytes bs) ≤ lengths ws
heads_long _ _ none = omega arith
heads_long _ _ (more {x = b} {y = w} {xs = bs} {ys = ws} h e) =
    let one = head_short b h.0 h.1 h.2 w h.3 in
    let rest = heads_long bs ws e in
    omega (arith, one, rest)

pub files_fit : FilesFit
files_fit p i n w t is tokens rows form sized =
    let whole = file_long i form.groups in
    let apart = methods_apart p w is in
    let cs = rows.codes in
    let named = subst (λ (bs : List Body). Each HasWords bs apart.0) (sym cs.bodies) apart.1 in
    let begins = subst (λ (k : ℕ). (c : Code) → slice_get i.codes k ≡ Some c → StartAt p n c) cs.start sized.start in
    let long = codes_long p n n.bodies apart.0 named i.codes cs.all sized.codes begins in
    let heads = heads_long n.bodies apart.0 named in
    let few = apart.2 in
    let one = a_class cs.all cs.start in
    let methods = sized.methods in
    let fields = sized.fields in
    let groups = sized.groups in
    omega (arith, whole, long, heads, few, tokens, groups, methods, fields, one)
  where
    a_class : length i.codes ≡ suc (length n.bodies) → i.start ≡ length n.bodies → 1 ≤ length i.classes
    a_class all at =
        let last = has_last i.codes (length n.bodies) all in
        let h = sized.start last.0 (subst (λ (k : ℕ). slice_get i.codes k ≡ Some last.0) (sym at) last.1) in
        let inside = slice_get_within n.classes h.number (h.class ∷ []) h.at_class in
        let same = some_class p n n.classes i.classes rows.rows in
        omega (arith, inside, same)
      where
        has_last : (cs : List Code) (k : ℕ) → length cs ≡ suc k → (c : Code) × (slice_get cs k ≡ Some c)
        has_last [] k e = absurd (omega (arith, e))
        has_last (c ∷ cs) zero e = (c, refl)
        has_last (c ∷ cs) (suc k) e = has_last cs k (omega (arith, e))

-- the image's texts are the program's
abbrev of_bytes : List ℕ → ℕ
of_bytes bytes = 4 + length bytes

image_texts : (ts : List image.Text) →
    total (map text_bytes ts) ≡ total (map of_bytes (map (λ (t : image.Text). t.bytes) ts))
image_texts [] = refl
image_texts (t ∷ ts) = let r = image_texts ts in omega (arith, r)

tree_texts : (ts : List Text) → total (map takes ts) ≡ total (map of_bytes (map (λ (t : Text). t.bytes) ts))
tree_texts [] = refl
tree_texts (t ∷ ts) = let r = tree_texts ts in omega (arith, r)

pub files_within : FilesWithin
files_within p bytes i n spells short rows form sized entries =
    let count = counted p bytes spells in
    let few = count.few in
    let texts = count.texts in
    let fits = files_fit p i n spells.parts count.tokens spells.is_program count.are rows form sized in
    let classes = form.classes_count in
    let a = image_texts i.texts in
    let b = tree_texts p.texts in
    let same = ap (λ (xs : List (List ℕ)). total (map of_bytes xs)) rows.texts in
    omega (arith, fits, classes, short, few, texts, entries, a, b, same)
