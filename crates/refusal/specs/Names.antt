-- What each layer is called where it is printed.
-- Assumes nothing.
use Rattle.std.specs.Prelude.{ℕ, List, codes}
use Rattle.refusal.specs.declared.Layer.{Layer}
use Rattle.refusal.specs.declared.Layer.TheVariants.{Arithmetic, Plan, Strip, Book, Checker, Listing}

abbrev pub layer_name : Layer → List ℕ
layer_name Arithmetic = codes "arithmetic"
layer_name Plan = codes "plan"
layer_name Strip = codes "strip"
layer_name Book = codes "book"
layer_name Checker = codes "checker"
layer_name Listing = codes "listing"
