-- What is told of a run of the generated source.
use Rattle.std.specs.Prelude.{ℕ, List, [], ◌∷◌, ◌++◌, ◌==◌, if◌then◌else◌, length, codes, decimal}

-- the lines that these bytes end, behind bytes that began the first of them
abbrev pub lines_behind : (begun bytes : List ℕ) → List (List ℕ)
lines_behind begun [] = []
lines_behind begun (b ∷ bs) = if b == 10 then begun ∷ lines_behind [] bs else lines_behind (begun ++ b ∷ []) bs

-- The lines of an output, without their line feeds. What stands behind the last line feed is no line.
abbrev pub lines_of : List ℕ → List (List ℕ)
lines_of output = lines_behind [] output

-- the last of the lines, and `before` where there is none
abbrev pub last_of : (before : List ℕ) → List (List ℕ) → List ℕ
last_of before [] = before
last_of before (l ∷ ls) = last_of l ls

-- families 4
abbrev pub summary_line : (word text : List ℕ) → List ℕ
summary_line word text = word ++ text ++ 10 ∷ []

-- The numbers of families and of classes, and the number of lines in the output and the last of them, which is empty
-- where there is none.
unfoldable pub summary : (families classes : ℕ) (output : List ℕ) → List ℕ
summary families classes output =
    summary_line (codes "families ") (decimal families) ++
    summary_line (codes "classes ") (decimal classes) ++
    summary_line (codes "lines ") (decimal (length (lines_of output))) ++
    summary_line (codes "last ") (last_of [] (lines_of output))
