-- Each test of a section's header decides where it fails; bytes that are too few for a header show last_table_id 0,
-- which is no table. Assumes nothing.
use Prim.Native.Nat.{ℕ, ◌<◌}
use mathlib.Core.Bool.{true, false, ◌&&◌, and-false}
use mathlib.Core.List.{List}
use mathlib.Core.Option.{Option}
use mathlib.Core.Path.{◌≡◌, sym, ap, ◌∙◌}
use native.Mathlib.Omega.{arith}
use lib.ListN.{length}
use Rattle.std.specs.Prelude.{Some, None}
use Rattle.std.specs.Bool.{then_some}
use Rattle.eit.specs.Fields.{field}
use Rattle.sections.specs.Section.{Header, header_size}
use Rattle.sections.specs.Decode.{header_in}
use Rattle.sections.specs.HeaderTests.{is_table, has_fixed_bits, is_same_file}
use Rattle.codec.proofs.FieldLaws.{field_none}
use Rattle.read_checks.specs.HeaderBefore.{is_table_version, is_header_by, checked_header}

module _ (before : Option Header) (versions bs : List ℕ) where
  refused : is_header_by before versions bs ≡ false → checked_header before versions bs ≡ None
  refused fails = rw (checked_header, fails)

  pub header_short : length bs < header_size → checked_header before versions bs ≡ None
  header_short few =
      let last : field 13 1 bs ≡ 0 = field_none bs 13 1 (omega arith) in
      refused (rw last (and-false (has_fixed_bits bs)))

  pub header_unfixed : has_fixed_bits bs ≡ false → checked_header before versions bs ≡ None
  header_unfixed fails = refused (rw fails)

  module _ (fixed : has_fixed_bits bs ≡ true) {h : Header} (shows : h ≡ header_in bs) where
    header_tests : is_header_by before versions bs
        ≡ (is_table h.last_table_id && (is_same_file before h && is_table_version before versions h))
    header_tests = rw (fixed, shows)

    pub header_no_table : is_table h.last_table_id ≡ false → checked_header before versions bs ≡ None
    header_no_table fails = refused (header_tests ∙ rw fails)

    module _ (table : is_table h.last_table_id ≡ true) where
      pub header_other : is_same_file before h ≡ false → checked_header before versions bs ≡ None
      header_other fails = refused (header_tests ∙ rw (table, fails))

      module _ (same : is_same_file before h ≡ true) where
        pub header_version : is_table_version before versions h ≡ false → checked_header before versions bs ≡ None
        header_version fails = refused (header_tests ∙ rw (table, same, fails))

        pub header_passes : is_table_version before versions h ≡ true → checked_header before versions bs ≡ Some h
        header_passes version =
            let passes : is_header_by before versions bs ≡ true = header_tests ∙ rw (table, same, version) in
            rw (checked_header, passes) (ap Some (sym shows))
