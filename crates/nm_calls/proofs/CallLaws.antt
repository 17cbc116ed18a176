pub mod BytesStay
pub mod MovesAreBatches
pub mod RefusalsChangeNothing
pub mod StaysSound
