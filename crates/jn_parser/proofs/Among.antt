-- All keywords, and all marks.
use Rattle.std.proofs.Common.{◌≡◌, List, [], ◌∷◌, subst}
use Rattle.jn_base.specs.declared.word.Keyword.{Keyword}
use Rattle.jn_base.specs.declared.word.Keyword.TheVariants as keyword_
use Rattle.jn_base.specs.declared.word.Mark.{Mark}
use Rattle.jn_base.specs.declared.word.Mark.TheVariants as mark_

-- x is one of these
pub data Among {A : Type 0} (x : A) : List A → Type 0 where
  here : {xs : List A} → Among x (x ∷ xs)
  later : {y : A} {xs : List A} → Among x xs → Among x (y ∷ xs)

-- one of them, and not the first
pub among_others : {A : Type 0} (x y : A) (xs ys : List A) → Among x ys → ys ≡ y ∷ xs → (x ≡ y → ⊥) → Among x xs
among_others x y xs _ here e n = let same : x ≡ y = cc in absurd (n same)
among_others x y xs _ (later {xs = zs} a) e n = let rest : zs ≡ xs = cc in subst (λ us. Among x us) rest a

pub among_none : {A : Type 0} (x : A) (ys : List A) → Among x ys → ys ≡ [] → ⊥
among_none x _ here e = cc
among_none x _ (later a) e = cc

abbrev pub keywords : List Keyword
keywords = keyword_.Adapts ∷ keyword_.Boolean ∷ keyword_.Class ∷ keyword_.Else ∷ keyword_.Extends ∷ keyword_.False ∷ keyword_.Final ∷ keyword_.If
    ∷ keyword_.Int ∷ keyword_.Is ∷ keyword_.New ∷ keyword_.Null ∷ keyword_.Package ∷ keyword_.Print ∷ keyword_.Return ∷ keyword_.Shares ∷ keyword_.Sharing
    ∷ keyword_.Super ∷ keyword_.This ∷ keyword_.True ∷ keyword_.View ∷ keyword_.Void ∷ keyword_.While ∷ []

pub keyword_among : (k : Keyword) → Among k keywords
keyword_among keyword_.Adapts = here
keyword_among keyword_.Boolean = later (here)
keyword_among keyword_.Class = later (later (here))
keyword_among keyword_.Else = later (later (later (here)))
keyword_among keyword_.Extends = later (later (later (later (here))))
keyword_among keyword_.False = later (later (later (later (later (here)))))
keyword_among keyword_.Final = later (later (later (later (later (later (here))))))
keyword_among keyword_.If = later (later (later (later (later (later (later (here)))))))
keyword_among keyword_.Int = later (later (later (later (later (later (later (later (here))))))))
keyword_among keyword_.Is = later (later (later (later (later (later (later (later (later (here)))))))))
keyword_among keyword_.New = later (later (later (later (later (later (later (later (later (later (here))))))))))
keyword_among keyword_.Null = later (later (later (later (later (later (later (later (later (later (later (here)))))))))))
keyword_among keyword_.Package = later (later (later (later (later (later (later (later (later (later (later (later (here))))))))))))
keyword_among keyword_.Print = later (later (later (later (later (later (later (later (later (later (later (later (later (here)))))))))))))
keyword_among keyword_.Return = later (later (later (later (later (later (later (later (later (later (later (later (later (later (here))))))))))))))
keyword_among keyword_.Shares = later (later (later (later (later (later (later (later (later (later (later (later (later (later (later (here)))))))))))))))
keyword_among keyword_.Sharing = later (later (later (later (later (later (later (later (later (later (later (later (later (later (later (later (here))))))))))))))))
keyword_among keyword_.Super = later (later (later (later (later (later (later (later (later (later (later (later (later (later (later (later (later (here)))))))))))))))))
keyword_among keyword_.This = later (later (later (later (later (later (later (later (later (later (later (later (later (later (later (later (later (later (here))))))))))))))))))
keyword_among keyword_.True = later (later (later (later (later (later (later (later (later (later (later (later (later (later (later (later (later (later (later (here)))))))))))))))))))
keyword_among keyword_.View = later (later (later (later (later (later (later (later (later (later (later (later (later (later (later (later (later (later (later (later (here))))))))))))))))))))
keyword_among keyword_.Void = later (later (later (later (later (later (later (later (later (later (later (later (later (later (later (later (later (later (later (later (later (here)))))))))))))))))))))
keyword_among keyword_.While = later (later (later (later (later (later (later (later (later (later (later (later (later (later (later (later (later (later (later (later (later (later (here))))))))))))))))))))))

abbrev pub marks : List Mark
marks = mark_.EqualEqual ∷ mark_.NotEqual ∷ mark_.LessEqual ∷ mark_.GreaterEqual ∷ mark_.AndAnd ∷ mark_.OrOr ∷ mark_.Arrow ∷ mark_.OpenBrace ∷ mark_.CloseBrace ∷ mark_.OpenParen ∷ mark_.CloseParen ∷ mark_.OpenBracket ∷ mark_.CloseBracket ∷ mark_.Dot ∷ mark_.Comma ∷ mark_.Semicolon ∷ mark_.Equals ∷ mark_.Bang ∷ mark_.Less ∷ mark_.Greater ∷ mark_.Plus ∷ mark_.Minus ∷ mark_.Star ∷ mark_.Slash ∷ mark_.Percent ∷ mark_.Ampersand ∷ mark_.Backslash ∷ []

pub mark_among : (m : Mark) → Among m marks
mark_among mark_.EqualEqual = here
mark_among mark_.NotEqual = later (here)
mark_among mark_.LessEqual = later (later (here))
mark_among mark_.GreaterEqual = later (later (later (here)))
mark_among mark_.AndAnd = later (later (later (later (here))))
mark_among mark_.OrOr = later (later (later (later (later (here)))))
mark_among mark_.Arrow = later (later (later (later (later (later (here))))))
mark_among mark_.OpenBrace = later (later (later (later (later (later (later (here)))))))
mark_among mark_.CloseBrace = later (later (later (later (later (later (later (later (here))))))))
mark_among mark_.OpenParen = later (later (later (later (later (later (later (later (later (here)))))))))
mark_among mark_.CloseParen = later (later (later (later (later (later (later (later (later (later (here))))))))))
mark_among mark_.OpenBracket = later (later (later (later (later (later (later (later (later (later (later (here)))))))))))
mark_among mark_.CloseBracket = later (later (later (later (later (later (later (later (later (later (later (later (here))))))))))))
mark_among mark_.Dot = later (later (later (later (later (later (later (later (later (later (later (later (later (here)))))))))))))
mark_among mark_.Comma = later (later (later (later (later (later (later (later (later (later (later (later (later (later (here))))))))))))))
mark_among mark_.Semicolon = later (later (later (later (later (later (later (later (later (later (later (later (later (later (later (here)))))))))))))))
mark_among mark_.Equals = later (later (later (later (later (later (later (later (later (later (later (later (later (later (later (later (here))))))))))))))))
mark_among mark_.Bang = later (later (later (later (later (later (later (later (later (later (later (later (later (later (later (later (later (here)))))))))))))))))
mark_among mark_.Less = later (later (later (later (later (later (later (later (later (later (later (later (later (later (later (later (later (later (here))))))))))))))))))
mark_among mark_.Greater = later (later (later (later (later (later (later (later (later (later (later (later (later (later (later (later (later (later (later (here)))))))))))))))))))
mark_among mark_.Plus = later (later (later (later (later (later (later (later (later (later (later (later (later (later (later (later (later (later (later (later (here))))))))))))))))))))
mark_among mark_.Minus = later (later (later (later (later (later (later (later (later (later (later (later (later (later (later (later (later (later (later (later (later (here)))))))))))))))))))))
mark_among mark_.Star = later (later (later (later (later (later (later (later (later (later (later (later (later (later (later (later (later (later (later (later (later (later (here))))))))))))))))))))))
mark_among mark_.Slash = later (later (later (later (later (later (later (later (later (later (later (later (later (later (later (later (later (later (later (later (later (later (later (here)))))))))))))))))))))))
mark_among mark_.Percent = later (later (later (later (later (later (later (later (later (later (later (later (later (later (later (later (later (later (later (later (later (later (later (later (here))))))))))))))))))))))))
mark_among mark_.Ampersand = later (later (later (later (later (later (later (later (later (later (later (later (later (later (later (later (later (later (later (later (later (later (later (later (later (here)))))))))))))))))))))))))
mark_among mark_.Backslash = later (later (later (later (later (later (later (later (later (later (later (later (later (later (later (later (later (later (later (later (later (later (later (later (later (later (here))))))))))))))))))))))))))
