-- The counts of a depot over real files.
--     DiskCounts       how many fetches and stores failed, and how many fetches were denied
--     no_faults        none
--     counts_after_fetch, counts_after_store      the counts that an answer leaves
use Rattle.std.specs.Prelude.{ℕ, Result, Ok, Err}
use Rattle.ma_io.specs.declared.faults.FetchFault.{FetchFault}
use Rattle.ma_io.specs.declared.faults.FetchFault.TheVariants.{Failed, Absent, TooLong, Memory}
use Rattle.ma_io.specs.declared.faults.StoreFault.{StoreFault}
use Rattle.ma_io.specs.declared.faults.StoreFault.TheVariants.{Failed as StoreFailed, Memory as StoreMemory}
use Rattle.ma_io.specs.Count.{raised}

pub record DiskCounts : Type 0 where
  pub fetch_faults : ℕ
  pub store_faults : ℕ
  pub denied : ℕ

abbrev pub no_faults : DiskCounts
no_faults = record { fetch_faults = 0; store_faults = 0; denied = 0 }

abbrev pub counts_after_fetch : {T : Type 0} → DiskCounts → Result T FetchFault → DiskCounts
counts_after_fetch d (Ok _) = d
counts_after_fetch d (Err Failed) = record d { fetch_faults = raised d.fetch_faults }
counts_after_fetch d (Err Absent) = record d { denied = raised d.denied }
counts_after_fetch d (Err TooLong) = record d { denied = raised d.denied }
counts_after_fetch d (Err Memory) = d

abbrev pub counts_after_store : {T : Type 0} → DiskCounts → Result T StoreFault → DiskCounts
counts_after_store d (Ok _) = d
counts_after_store d (Err StoreFailed) = record d { store_faults = raised d.store_faults }
counts_after_store d (Err StoreMemory) = d
