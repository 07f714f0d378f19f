-- `tide::Doodson::sum_of_products` meets its contract, by the definition.
use Rattle.tide.specs.Tidal.{sum_of_products}
use Rattle.tide.proofs.Doodson.sum_of_products.Goals as goal

pub returns : goal.returns
unfolding sum_of_products
returns c = rw (c.products_added.ensures, c.factors.ensures)
