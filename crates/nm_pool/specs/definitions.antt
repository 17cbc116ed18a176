-- What the contracts of a machine's memory say beside the model.
pub mod AfterCopy
