-- What only the contracts of internal functions cite. No promise of an entry point rests on the text of these modules.
pub mod Following
