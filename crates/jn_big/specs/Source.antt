-- The source that the generator makes of a number.
use Rattle.std.specs.Prelude.{ℕ, zero, suc, List, [], ◌∷◌, ◌++◌, codes, decimal}
use Prim.Native.String.{String}

-- the lines, each ended by a line feed
abbrev pub lines : List String → List ℕ
lines [] = []
lines (s ∷ ss) = codes s ++ 10 ∷ lines ss

-- the family that the others adapt, one after the other
abbrev pub first_family : List ℕ
first_family = lines (
    "package f0 {" ∷
    "  class Node {" ∷
    "    int v;" ∷
    "    Node next;" ∷
    "    void Node(int a, Node b) { this.v = a; this.next = b; }" ∷
    "    int weight() { return this.v; }" ∷
    "    int total() { int t = this.weight(); if (this.next != null) { t = t + this.next.total(); } return t; }" ∷
    "  }" ∷
    "  class Make {" ∷
    "    Node chain(int k) { Node h = null; while (0 < k) { h = new Node(k, h); k = k - 1; } return h; }" ∷
    "  }" ∷
    "}" ∷
    [])

-- package f3 extends f2 adapts f2 {
--   class Node { int weight() { return super[f2.Node].weight() + 1; } }
-- }
abbrev pub family : (i j : ℕ) → List ℕ
family i j =
    codes "package f" ++ decimal i ++ codes " extends f" ++ decimal j ++ codes " adapts f" ++ decimal j ++
    codes " {\n  class Node { int weight() { return super[f" ++ decimal j ++
    codes ".Node].weight() + 1; } }\n}\n"

-- f0, and behind it a family for each number from 1 to n
abbrev pub families : ℕ → List ℕ
families zero = first_family
families (suc j) = families j ++ family (suc j) j

--     print(((view f3!.Node) h).total());
abbrev pub print_line : ℕ → List ℕ
print_line i = codes "    print(((view f" ++ decimal i ++ codes "!.Node) h).total());\n"

-- a line for each number from 1 to n
abbrev pub print_lines : ℕ → List ℕ
print_lines zero = []
print_lines (suc j) = print_lines j ++ print_line (suc j)

-- up to the first line that is printed
abbrev pub main_start : List ℕ
main_start = lines (
    "class Main {" ∷
    "  void main() {" ∷
    "    f0!.Node h = new f0.Make().chain(100);" ∷
    "    print(h.total());" ∷
    [])

abbrev pub main_end : List ℕ
main_end = lines ("  }" ∷ "}" ∷ [])

-- The families, and `Main`, which makes a chain of 100 nodes in f0 and prints its total, as f0 has it and then as each
-- of the others has it.
unfoldable pub big_source : ℕ → List ℕ
big_source n = families n ++ main_start ++ print_lines n ++ main_end
