-- No promise: a code, by which a proof tells the states of a depot in memory apart.
use Rattle.std.specs.Prelude.{ℕ, List, refl}
use Rattle.std.specs.Coded.{Coded, code_by, coded×, coded_ℕ, coded_list}
use Rattle.std.specs.FinMap as map
use Rattle.ma_io.specs.Files.{Files}
use Rattle.ma_io.specs.MemDepot.{DepotState}

abbrev pub depot_code : Coded DepotState
depot_code =
    code_by (Files × (List ℕ × (List ℕ × (ℕ × (ℕ × (ℕ × (ℕ × ℕ)))))))
    (coded× (map.code (coded_list coded_ℕ) (coded_list coded_ℕ)) (coded× (coded_list coded_ℕ) (coded× (coded_list coded_ℕ) (coded× coded_ℕ (coded× coded_ℕ (coded× coded_ℕ (coded× coded_ℕ coded_ℕ)))))))
    (λ d. (d.files, (d.fail_fetches, (d.fail_stores, (d.fetches, (d.stores, (d.fetch_faults, (d.store_faults, d.denied))))))))
    (λ p. record { files = p.0; fail_fetches = p.1.0; fail_stores = p.1.1.0; fetches = p.1.1.1.0; stores = p.1.1.1.1.0; fetch_faults = p.1.1.1.1.1.0; store_faults = p.1.1.1.1.1.1.0; denied = p.1.1.1.1.1.1.1 })
    (λ _. refl)
