-- What is looked up by record number is right: the own ports, and the ports of the components before.
-- Assumes nothing.
use Rattle.std.specs.Prelude.{ℕ, ◌+◌, ◌<◌, ◌≡◌, refl, List, [], ◌∷◌, ◌++◌, length, get_or}
use Rattle.std.proofs.lemmas.List.{take-append-le}
use Rattle.std.proofs.Common.{take_at, arith}
use Rattle.timeline.specs.Design.{Design, Component, Port, no_port, no_component, component, input_count, output_count}
use Rattle.timeline.specs.Design as T
use Rattle.entry.specs.Lists.{add_last}
use Rattle.entry.specs.Records.{Record, records}
use Rattle.entry.specs.Numbers.{component_number, input_number, output_number}
use Rattle.entry.proofs.Main.{each_stands}
use Rattle.entry.proofs.Laws.{length_add_last, at_old, at_new}
use Rattle.reading.specs.Reads.{Looks}

-- The component number in a design with one component more.
pub number_old : (E : List Component) (C : Component) (c : ℕ) → c < length E → component_number (add_last E C) c ≡ component_number E c
unfolding component_number add_last
number_old E C c l = rw (take-append-le c E (C ∷ []) (omega arith))

pub number_new : (E : List Component) (C : Component) → component_number (add_last E C) (length E) ≡ length (records E)
unfolding component_number add_last
number_new E C = rw (take_at E (C ∷ []) (length E) refl)

module _ (file : List Record) (look : ℕ → Port) (looks : Looks file look) (E : List Component) (C : Component) (rest : List Record) (w : file ≡ records (add_last E C) ++ rest) where
  abbrev D : Design
  D = add_last E C

  at_input : (c i : ℕ) → c < length D → i < input_count D c → look (input_number D c i) ≡ T.input D c i
  at_input c i l k = (looks (input_number D c i) (T.input D c i)).0 (rw w ((each_stands D rest c l).input_at i k))

  at_output : (c o : ℕ) → c < length D → o < output_count D c → look (output_number D c o) ≡ T.output D c o
  at_output c o l k = (looks (output_number D c o) (T.output D c o)).1 (rw w ((each_stands D rest c l).output_at o k))

  own_present : length E < length D
  own_present = let z = length_add_last E C in omega arith

  pub own_input : (i : ℕ) → i < length C.inputs → look (length (records E) + 1 + i) ≡ get_or C.inputs i no_port
  unfolding input_number T.input input_count component
  own_input i l = rw (number_new E C, at_new no_component E C) at (at_input (length E) i own_present (rw (at_new no_component E C) l))

  pub own_output : (o : ℕ) → o < length C.outputs → look (length (records E) + 1 + length C.inputs + o) ≡ get_or C.outputs o no_port
  unfolding input_number output_number T.output input_count output_count component
  own_output o l = rw (number_new E C, at_new no_component E C) at (at_output (length E) o own_present (rw (at_new no_component E C) l))

  module _ (c : ℕ) (l : c < length E) where
    old_present : c < length D
    old_present = let z = length_add_last E C in omega arith

    pub earlier_input : (i : ℕ) → i < length (get_or E c no_component).inputs → look (component_number E c + 1 + i) ≡ get_or (get_or E c no_component).inputs i no_port
    unfolding input_number T.input input_count component
    earlier_input i k = rw (number_old E C c l, at_old no_component E C c l) at (at_input c i old_present (rw (at_old no_component E C c l) k))

    pub earlier_output : (o : ℕ) → o < length (get_or E c no_component).outputs
        → look (component_number E c + 1 + length (get_or E c no_component).inputs + o) ≡ get_or (get_or E c no_component).outputs o no_port
    unfolding input_number output_number T.output input_count output_count component
    earlier_output o k = rw (number_old E C c l, at_old no_component E C c l) at (at_output c o old_present (rw (at_old no_component E C c l) k))
