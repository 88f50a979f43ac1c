-- Texts worked out.
use Rattle.std.specs.Prelude.{◌≡◌, ℕ, List, [], ◌∷◌, codes}
use Rattle.jn_big.specs.Source.{lines, big_source}
use Rattle.jn_big.specs.Summary.{summary}

abbrev pub of_two : List ℕ
of_two = lines (
    "package f0 {" ∷
    "  class Node {" ∷
    "    int v;" ∷
    "    Node next;" ∷
    "    void Node(int a, Node b) { this.v = a; this.next = b; }" ∷
    "    int weight() { return this.v; }" ∷
    "    int total() { int t = this.weight(); if (this.next != null) { t = t + this.next.total(); } return t; }" ∷
    "  }" ∷
    "  class Make {" ∷
    "    Node chain(int k) { Node h = null; while (0 < k) { h = new Node(k, h); k = k - 1; } return h; }" ∷
    "  }" ∷
    "}" ∷
    "package f1 extends f0 adapts f0 {" ∷
    "  class Node { int weight() { return super[f0.Node].weight() + 1; } }" ∷
    "}" ∷
    "package f2 extends f1 adapts f1 {" ∷
    "  class Node { int weight() { return super[f1.Node].weight() + 1; } }" ∷
    "}" ∷
    "class Main {" ∷
    "  void main() {" ∷
    "    f0!.Node h = new f0.Make().chain(100);" ∷
    "    print(h.total());" ∷
    "    print(((view f1!.Node) h).total());" ∷
    "    print(((view f2!.Node) h).total());" ∷
    "  }" ∷
    "}" ∷
    [])

pub record BigExamples : Type 0 where
  pub two : big_source 2 ≡ of_two
  pub of_four_lines : summary 4 13 (codes "5050\n5150\n5250\n5350\n") ≡ codes "families 4\nclasses 13\nlines 4\nlast 5350\n"
  pub of_nothing : summary 1 4 [] ≡ codes "families 1\nclasses 4\nlines 0\nlast \n"
  -- what no line feed ends is no line
  pub of_a_cut_line : summary 1 4 (codes "5050\n51") ≡ codes "families 1\nclasses 4\nlines 1\nlast 5050\n"
