use Rattle.std.proofs.Common.{◌≡◌, ◌+◌, ◌*◌, [], ◌∷◌, ◌++◌, take}
use Rattle.edn_writer.proofs.Appending.{row, element_text, pair_text}
use Rattle.edn_writer.proofs.writer.+writer.Given as goal

abbrev pub invariant-append_elements-loop-i : goal.invariant-append_elements-loop-i
invariant-append_elements-loop-i l = l.text.items ≡ l.fn.text.items ++ row element_text (32 ∷ []) (take l.i l.elements)

abbrev pub invariant-append_pairs-loop-i : goal.invariant-append_pairs-loop-i
invariant-append_pairs-loop-i l = l.text.items ≡ l.fn.text.items ++ row pair_text (44 ∷ 32 ∷ []) (take l.i l.found)

abbrev pub decreases-append : goal.decreases-append
decreases-append l = 4 * goal.size-append l

abbrev pub decreases-append_elements : goal.decreases-append_elements
decreases-append_elements l = 4 * goal.size-append_elements l + 1

abbrev pub decreases-append_vector : goal.decreases-append_vector
decreases-append_vector l = 4 * goal.size-append_vector l + 2

abbrev pub decreases-append_set : goal.decreases-append_set
decreases-append_set l = 4 * goal.size-append_set l + 2

abbrev pub decreases-append_pair : goal.decreases-append_pair
decreases-append_pair l = 4 * goal.size-append_pair l + 1

abbrev pub decreases-append_pairs : goal.decreases-append_pairs
decreases-append_pairs l = 4 * goal.size-append_pairs l + 2

abbrev pub decreases-append_map : goal.decreases-append_map
decreases-append_map l = 4 * goal.size-append_map l + 3
