use Rattle.std.proofs.Common.{◌≡◌, take, true}
use Rattle.std.specs.List.{list_all}
use Rattle.rhm_c.specs.Command.{is_page_number}
use Rattle.rhm_c.proofs.command.RawCommand.auxiliaries.Given as goal

abbrev pub invariant-pages : goal.invariant-pages
invariant-pages l = record {
  items : l.pages.items ≡ take l.place l.self.aux;
  are_pages : list_all is_page_number (take l.place l.self.aux) ≡ true;
}
