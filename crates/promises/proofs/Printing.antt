-- Document 02 e) in one theorem, by those on its floats, its layers, its writer, its reader and what is written and then read. Assumes nothing.
use mathlib.Core.List.{List}
use Prim.Native.Nat.{ℕ}
use Rattle.promises.specs.Printing.{Lent, PrintingOrders}
use Rattle.promises.proofs.PrintedFloats.{floats-exactly}
use Rattle.promises.proofs.PrintedLayers.{prints-exactly}
use Rattle.promises.proofs.PrintedWritten.{writes-exactly}
use Rattle.promises.proofs.PrintedRead.{reads-exactly}
use Rattle.promises.proofs.PrintedTrip.{written-then-read}

pub printing-orders : (N T step : ℕ) (cures : List ℕ) → Lent N T step cures → PrintingOrders N T step cures
printing-orders N T step cures l = record {
  floats = floats-exactly l;
  layers = λ zs o. prints-exactly l o;
  writes = λ zs out. writes-exactly l zs out;
  reads = λ file byte number. reads-exactly l file byte number;
  trips = λ zs o out room. written-then-read l o out room;
}
