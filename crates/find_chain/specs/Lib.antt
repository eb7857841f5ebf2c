pub mod ChainCall
