-- Read's test that a section has the triplet and last_table_id of the one before it says just that: field by field.
-- Assumes nothing.
use mathlib.Core.Path.{◌≡◌, ap}
use mathlib.Core.Option.{some}
use lib.Dec.{T, eqb, eqb→eq}
use Rattle.eit.specs.declared.Triplet.{Triplet}
use Rattle.eit.proofs.Test.{tests, eq_test}
use Rattle.sections.specs.Section.{Header}
use Rattle.sections.specs.HeaderTests.{is_same_file}

pub record SameFile (g h : Header) : Type 0 where
  pub triplet : h.triplet ≡ g.triplet
  pub last_table : h.last_table_id ≡ g.last_table_id

pub same_file : (g h : Header) → T (is_same_file (some g) h) → SameFile g h
same_file g h t =
    let service : h.triplet.service_id ≡ g.triplet.service_id = eqb→eq _ _ (search tests) in
    let stream : h.triplet.transport_stream_id ≡ g.triplet.transport_stream_id = eqb→eq _ _ (search tests) in
    let network : h.triplet.original_network_id ≡ g.triplet.original_network_id = eqb→eq _ _ (search tests) in
    record {
      triplet = λ i.
          record { service_id = service i; transport_stream_id = stream i; original_network_id = network i };
      last_table = eqb→eq _ _ (search tests);
    }

pub file_same : (g h : Header) → SameFile g h → T (is_same_file (some g) h)
file_same g h same =
    let service : T (eqb h.triplet.service_id g.triplet.service_id) =
    eq_test _ _ (ap (λ (t : Triplet). t.service_id) same.triplet) in
    let stream : T (eqb h.triplet.transport_stream_id g.triplet.transport_stream_id) =
    eq_test _ _ (ap (λ (t : Triplet). t.transport_stream_id) same.triplet) in
    let network : T (eqb h.triplet.original_network_id g.triplet.original_network_id) =
    eq_test _ _ (ap (λ (t : Triplet). t.original_network_id) same.triplet) in
    let last : T (eqb h.last_table_id g.last_table_id) = eq_test _ _ same.last_table in
    search tests
